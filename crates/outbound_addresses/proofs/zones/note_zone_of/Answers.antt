use Rattle.std.proofs.Common.{◌≡◌, false, ap, rules, subst, ◌∙◌, List, ℕ, Option, is_some}
use Rattle.std.proofs.lemmas.Result.{on_ok_weaker}
use Rattle.node_model.specs.Outside.{path_in}
use Rattle.node_store.specs.Stored.{stand_of}
use Rattle.bso_outbound.specs.Names.{zone_folder}
use Rattle.bso_outbound.specs.Paths.{folder_above, last_part}
use Rattle.bso_outbound.specs.Reading.{IsNumber, Reads}
use Rattle.outbound_addresses.proofs.NotedZones.{none_read, zone_of_noted, zone_passed}
use Rattle.outbound_addresses.proofs.zones.note_zone_of.Goals as goal

pub returns-then-is_none-clause-finds : goal.returns-then-is_none-clause-finds
returns-then-is_none-clause-finds g c =
    let start = stand_of g.D.Disk.tells g.D.Disk.content g.D.Disk.fault_count g.D.Disk.moment g.D.Disk.images c.args.store.now in
    let default = c.args.outbound.zone in
    let none : is_some c.zone_of.result ≡ false = grind rules in
    let last : c.last_part.result.now ≡ last_part c.args.outbound.base.now.list = c.last_part.ensures ∙ ap last_part c.as_slice-base.ensures in
    let named = subst (λ (l : List ℕ). Reads IsNumber (λ zone. zone_folder c.last_part.result.now zone default) l c.zone_of.result) c.as_slice.ensures c.zone_of.ensures in
    let read = subst (λ (l : List ℕ). Reads IsNumber (λ zone. zone_folder l zone default) c.args.name.now.list c.zone_of.result) last named in
    zone_passed c.args.outbound.base.now.list default start.state.content c.args.name.now.list c.args.found.now
    (none_read c.zone_of.result (λ (o : Option ℕ). Reads IsNumber (λ zone. zone_folder (last_part c.args.outbound.base.now.list) zone default) c.args.name.now.list o) none read)

pub returns-in-Ok-clause-finds : goal.returns-in-Ok-clause-finds
returns-in-Ok-clause-finds g c =
    let start = stand_of g.D.Disk.tells g.D.Disk.content g.D.Disk.fault_count g.D.Disk.moment g.D.Disk.images c.args.store.now in
    let base = c.args.outbound.base.now.list in
    let above : c.folder_above.result.now ≡ folder_above base = c.folder_above.ensures ∙ ap folder_above c.as_slice-base.ensures in
    let is : c.in-Ok.folder.list ≡ path_in (folder_above base) c.args.name.now.list =
    c.in-Ok.ensures ∙ ap (λ (l : List ℕ). path_in l c.as_slice-2.result.now) above ∙ ap (path_in (folder_above base)) c.as_slice-2.ensures in
    on_ok_weaker c.note_zone.result
    (zone_of_noted base c.args.outbound.zone start.state.content c.args.name.now.list c.in-Ok.folder.list c.args.found.now c.note_zone.new.found is)
    c.note_zone.ensures.finds
