use Rattle.std.proofs.Common.{map, ap, ◌∙◌}
use Rattle.std.proofs.lemmas.Result.{on_ok_weaker}
use Rattle.node_model.specs.StoreStates.{StoreState}
use Rattle.node_store.specs.Stored.{stand_of}
use Rattle.outbound_places.proofs.Added.{grows-then}
use Rattle.outbound_addresses.proofs.Asked.{and_then}
use Rattle.outbound_addresses.proofs.NotedZones.{listed_noted}
use Rattle.outbound_addresses.proofs.Noting.{on_ok_both}
use Rattle.outbound_addresses.proofs.zones.note_listed.Goals as goal

pub note_points-requires-clause-whole : goal.note_points-requires-clause-whole
note_points-requires-clause-whole g c = ap (λ (s : StoreState). s.counts.broken) c.in-Ok.ensures.asks.made ∙ c.requires.whole

pub returns-in-Ok-clause-grows : goal.returns-in-Ok-clause-grows
returns-in-Ok-clause-grows g c = on_ok_weaker c.note_points.result (grows-then c.args.found.now c.note_names.new.found c.note_points.new.found c.in-Ok.ensures.grows) c.note_points.ensures.grows

pub returns-in-Ok-clause-finds : goal.returns-in-Ok-clause-finds
returns-in-Ok-clause-finds g c =
    let start = stand_of g.D.Disk.tells g.D.Disk.content g.D.Disk.fault_count g.D.Disk.moment g.D.Disk.images c.args.store.now in
    let mid = stand_of g.D.Disk.tells g.D.Disk.content g.D.Disk.fault_count g.D.Disk.moment g.D.Disk.images c.note_names.new.store in
    on_ok_both c.note_points.result
    (λ grows below. listed_noted c.args.outbound.base.now.list c.args.outbound.zone start mid c.args.folder.now.list (map (λ name. name.list) c.args.names.now) c.args.found.now c.note_names.new.found c.note_points.new.found c.in-Ok.ensures.asks grows c.in-Ok.ensures.finds below)
    c.note_points.ensures.grows c.note_points.ensures.finds

pub returns-in-Ok-clause-asks : goal.returns-in-Ok-clause-asks
returns-in-Ok-clause-asks g c = and_then tt c.note_points.result _ _ _ c.in-Ok.ensures.asks c.note_points.ensures.asks
