use Rattle.std.proofs.Common.{◌∙◌, List, arith, map, subst}
use Rattle.ftn_addr.specs.Address.{address}
use Rattle.ftn_addr.specs.declared.byte_list.Bytes.{Bytes}
use Rattle.outbound_take.proofs.RuledLemmas.{ruled_on}
use Rattle.outbound_intake.specs.Files.{PointFolders}
use Rattle.outbound_intake.proofs.AskLemmas.{asks_calm, asks_on, asks_told}
use Rattle.outbound_intake.proofs.FolderLemmas.{node_folders, point_folders}
use Rattle.outbound_intake.proofs.folders.folders_for.Goals as goal

pub returns-then-dest-eq0-clause-folders : goal.returns-then-dest-eq0-clause-folders
returns-then-dest-eq0-clause-folders g c = λ s tells.
    node_folders c.args.outbound.now.base.now.list c.args.outbound.now.zone c.args.outbound.now.home.now.domain.list (address c.args.dest.now) c.requires.address s.outside (map (λ folder. folder.list) c.in-Ok.zones.items) c.if-dest-eq0.true (c.in-Ok.ensures.folders s tells)

pub point_folders-requires-clause-calm : goal.point_folders-requires-clause-calm
point_folders-requires-clause-calm g c = asks_calm _ _ _ c.in-Ok.ensures.asks tt

pub returns-in-Ok-point_folders-clause-asks : goal.returns-in-Ok-point_folders-clause-asks
returns-in-Ok-point_folders-clause-asks g c = asks_on _ _ _ _ _ c.in-Ok.ensures.asks tt c.in-Ok-point_folders.ensures.asks

pub returns-in-Ok-point_folders-clause-folders : goal.returns-in-Ok-point_folders-clause-folders
returns-in-Ok-point_folders-clause-folders g c = λ s tells.
    point_folders c.args.outbound.now.base.now.list c.args.outbound.now.zone c.args.outbound.now.home.now.domain.list (address c.args.dest.now) c.requires.address s.outside (map (λ zone. zone.list) c.in-Ok.zones.items) (map (λ folder. folder.list) c.in-Ok-point_folders.folders.items) (omega (arith, c.if-dest-eq0.false)) (c.in-Ok.ensures.folders s tells)
    (subst (λ (l : List Bytes). PointFolders (c.args.dest.now.net, c.args.dest.now.node) s.outside (map (λ zone. zone.list) l) (map (λ folder. folder.list) c.in-Ok-point_folders.folders.items)) c.as_slice.ensures.value (c.in-Ok-point_folders.ensures.folders s (asks_told _ _ _ c.in-Ok.ensures.asks tt ∙ tells)))

pub returns-clause-asks : goal.returns-clause-asks
returns-clause-asks g c = asks_on _ _ _ _ _ c.in-Ok.ensures.asks tt c.in-Err-point_folders.ensures.asks

pub returns-in-Ok-point_folders-clause-ruled : goal.returns-in-Ok-point_folders-clause-ruled
returns-in-Ok-point_folders-clause-ruled g c = ruled_on _ _ _ _ c.in-Ok.ensures.ruled c.in-Ok-point_folders.ensures.ruled
