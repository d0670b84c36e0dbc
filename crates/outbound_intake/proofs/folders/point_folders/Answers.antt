use Rattle.std.proofs.Common.{◌∙◌, List, ℕ, map, sym, subst, take}
use Rattle.std.proofs.lemmas.List.{take_all}
use Rattle.ftn_addr.specs.declared.byte_list.Bytes.{Bytes}
use Rattle.outbound_take.proofs.RuledLemmas.{ruled_call}
use Rattle.outbound_intake.specs.Files.{AddsFolders, NamesPoints, PointFolders}
use Rattle.outbound_intake.proofs.AskLemmas.{asks_on, asks_one, asks_told}
use Rattle.outbound_intake.proofs.FileLemmas.{taken_more}
use Rattle.outbound_intake.proofs.FolderLemmas.{points_more}
use Rattle.outbound_intake.proofs.folders.point_folders.Goals as goal

pub returns-in-Err-clause-asks : goal.returns-in-Err-clause-asks
returns-in-Err-clause-asks g c = asks_on _ _ _ _ _ c.loop-zone.invariant.asks tt (asks_one _ _ _ c.in-Err.ensures.kept c.in-Err.ensures.memory)

pub returns-in-Err-add_points-clause-asks : goal.returns-in-Err-add_points-clause-asks
returns-in-Err-add_points-clause-asks g c = asks_on _ _ _ _ _ c.loop-zone.invariant.asks tt (asks_one _ _ _ c.in-Ok.ensures.kept c.in-Ok.ensures.memory)

pub returns-in-Err-clause-ruled : goal.returns-in-Err-clause-ruled
returns-in-Err-clause-ruled g c = ruled_call _ _ _ _ c.loop-zone.invariant.ruled c.in-Err.ensures.rule

pub returns-in-Err-add_points-clause-ruled : goal.returns-in-Err-add_points-clause-ruled
returns-in-Err-add_points-clause-ruled g c = ruled_call _ _ _ _ c.loop-zone.invariant.ruled c.in-Ok.ensures.rule

pub loop-zone-preserved : goal.loop-zone-preserved
loop-zone-preserved g c = record {
  ruled = ruled_call _ _ _ _ c.loop-zone.invariant.ruled c.in-Ok.ensures.rule;
  asks = asks_on _ _ _ _ _ c.loop-zone.invariant.asks tt (asks_one _ _ _ c.in-Ok.ensures.kept c.in-Ok.ensures.memory);
  folders = λ s tells.
      subst (λ (l : List (List ℕ)). PointFolders (c.args.dest.now.net, c.args.dest.now.node) s.outside l (map (λ folder. folder.list) c.add_points.new.folders.items)) (sym (taken_more (λ zone. zone.list) c.args.zones.now c.loop-zone.zone-index c.zone-item.result c.loop-zone-test.true c.zone-item.is))
      (points_more (c.args.dest.now.net, c.args.dest.now.node) s.outside (map (λ zone. zone.list) (take c.loop-zone.zone-index c.args.zones.now)) c.zone-item.result.list (map (λ name. name.list) c.in-Ok.names.items) (map (λ folder. folder.list) c.loop-zone.folders.items) (map (λ folder. folder.list) c.add_points.new.folders.items)
      (c.loop-zone.invariant.folders s tells) (c.in-Ok.ensures.told s (asks_told _ _ _ c.loop-zone.invariant.asks tt ∙ tells))
      (subst (λ (l : List Bytes). AddsFolders c.zone-item.result.list (NamesPoints (c.args.dest.now.net, c.args.dest.now.node)) (map (λ name. name.list) l) (map (λ folder. folder.list) c.loop-zone.folders.items) (map (λ folder. folder.list) c.add_points.new.folders.items)) c.as_slice.ensures.value c.in_default.ensures));
}

pub returns-clause-folders : goal.returns-clause-folders
returns-clause-folders g c = λ s tells.
    subst (λ (l : List Bytes). PointFolders (c.args.dest.now.net, c.args.dest.now.node) s.outside (map (λ zone. zone.list) l) (map (λ folder. folder.list) c.loop-zone.folders.items)) (take_all c.loop-zone.zone-index c.args.zones.now c.loop-zone-test.false) (c.loop-zone.invariant.folders s tells)
