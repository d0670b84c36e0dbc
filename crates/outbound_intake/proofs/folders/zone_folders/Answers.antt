use Rattle.std.proofs.Common.{[], ◌≡◌, ◌∙◌, List, ap, map, subst}
use Rattle.ftn_addr.specs.declared.byte_list.Bytes.{Bytes}
use Rattle.bso_outbound.specs.Paths.{folder_above}
use Rattle.outbound_intake.specs.Files.{AddsFolders, NamesZone}
use Rattle.outbound_intake.proofs.AskLemmas.{asks_one}
use Rattle.outbound_intake.proofs.FolderLemmas.{zones_told}
use Rattle.outbound_intake.proofs.folders.zone_folders.Goals as goal

pub returns-in-Err-names-clause-asks : goal.returns-in-Err-names-clause-asks
returns-in-Err-names-clause-asks g c = asks_one _ _ _ c.in-Err-names.ensures.kept c.in-Err-names.ensures.memory

pub returns-in-Ok-zones_among-clause-asks : goal.returns-in-Ok-zones_among-clause-asks
returns-in-Ok-zones_among-clause-asks g c = asks_one _ _ _ c.in-Ok-names.ensures.kept c.in-Ok-names.ensures.memory

pub returns-in-Ok-zones_among-clause-folders : goal.returns-in-Ok-zones_among-clause-folders
returns-in-Ok-zones_among-clause-folders g c = λ s tells.
    let base = c.args.outbound.now.base.now.list in
    let is : c.in-Ok.above.list ≡ folder_above base = c.in-Ok.ensures ∙ c.folder_above.ensures ∙ ap folder_above c.as_slice.ensures in
    zones_told base c.args.dest.now.zone c.args.outbound.now.zone s.outside c.in-Ok.above.list (map (λ name. name.list) c.in-Ok-names.names.items) (map (λ folder. folder.list) c.in-Ok-zones_among.folders.items) is (c.in-Ok-names.ensures.told s tells)
    (subst (λ (l : List Bytes). AddsFolders c.in-Ok.above.list (NamesZone base c.args.dest.now.zone c.args.outbound.now.zone) (map (λ name. name.list) l) [] (map (λ folder. folder.list) c.in-Ok-zones_among.folders.items)) c.as_slice-2.ensures.value c.in-Ok-zones_among.ensures)

pub returns-clause-asks : goal.returns-clause-asks
returns-clause-asks g c = asks_one _ _ _ c.in-Ok-names.ensures.kept c.in-Ok-names.ensures.memory
