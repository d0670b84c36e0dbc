use Rattle.std.proofs.Common.{◌≡◌, ap, ◌∙◌}
use Rattle.std.proofs.lemmas.Result.{on_ok_weaker}
use Rattle.node_store.specs.Stored.{stand_of}
use Rattle.bso_outbound.specs.Paths.{folder_above}
use Rattle.outbound_addresses.proofs.NotedZones.{zones_noted}
use Rattle.outbound_addresses.proofs.zones.note_zones.Goals as goal

pub returns-in-Ok-clause-finds : goal.returns-in-Ok-clause-finds
returns-in-Ok-clause-finds g c =
    let start = stand_of g.D.Disk.tells g.D.Disk.content g.D.Disk.fault_count g.D.Disk.moment g.D.Disk.images c.args.store.now in
    let base = c.args.outbound.base.now.list in
    let is : c.in-Ok.above.list ≡ folder_above base = c.in-Ok.ensures ∙ c.folder_above.ensures ∙ ap folder_above c.as_slice.ensures in
    on_ok_weaker c.note_above.result
    (zones_noted base c.args.outbound.zone start.state.content c.in-Ok.above.list c.args.found.now c.note_above.new.found is)
    c.note_above.ensures.finds
