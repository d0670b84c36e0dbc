use Rattle.std.proofs.Common.{List, ℕ, Ok, ap, map, subst, ◌∙◌}
use Rattle.std.specs.Prelude.{OnOk}
use Rattle.std.proofs.lemmas.Result.{on_ok_weaker}
use Rattle.ftn_addr.specs.declared.byte_list.Bytes.{Bytes}
use Rattle.node_model.specs.Lists.{Member}
use Rattle.node_model.specs.StoreStates.{IfTold, StoreState}
use Rattle.node_store.specs.Stored.{stand_of}
use Rattle.bso_outbound.specs.Paths.{folder_above}
use Rattle.outbound_places.specs.Outbound.{Finds, IsEntry, IsInOne}
use Rattle.outbound_addresses.specs.Asking.{AsksLater}
use Rattle.outbound_addresses.proofs.Asked.{and_then, answered, refused}
use Rattle.outbound_addresses.proofs.NotedZones.{above_noted}
use Rattle.outbound_addresses.proofs.zones.note_above.Goals as goal

pub returns-in-Err-clause-asks : goal.returns-in-Err-clause-asks
returns-in-Err-clause-asks g c = refused c.in-Err.fault _ _ c.in-Err.ensures.asks

pub note_each_zone-requires-clause-whole : goal.note_each_zone-requires-clause-whole
note_each_zone-requires-clause-whole g c = ap (λ (s : StoreState). s.counts.broken) c.in-Ok.ensures.asks.made ∙ c.requires.whole

pub returns-in-Ok-clause-finds : goal.returns-in-Ok-clause-finds
returns-in-Ok-clause-finds g c =
    let start = stand_of g.D.Disk.tells g.D.Disk.content g.D.Disk.fault_count g.D.Disk.moment g.D.Disk.images c.args.store.now in
    let mid = stand_of g.D.Disk.tells g.D.Disk.content g.D.Disk.fault_count g.D.Disk.moment g.D.Disk.images c.list.new.store in
    let base = c.args.outbound.base.now.list in
    let zone = c.args.outbound.zone in
    let asked : AsksLater {T = Unit {0}} (Ok tt) start mid = answered c.in-Ok.names tt start mid c.in-Ok.ensures.asks in
    let noted = subst (λ (l : List Bytes). OnOk c.note_each_zone.result (IfTold mid.state.content (λ s. ((n : List ℕ) → Member n (map (λ name. name.list) l) → IsEntry n) → Finds base zone s.outside (IsInOne (folder_above base) (map (λ name. name.list) l)) c.args.found.now c.note_each_zone.new.found))) c.as_slice.ensures.value c.note_each_zone.ensures.finds in
    on_ok_weaker c.note_each_zone.result
    (λ finds. above_noted base zone start mid c.args.above.now.list (map (λ name. name.list) c.in-Ok.names.items) c.args.found.now c.note_each_zone.new.found asked c.in-Ok.ensures.told finds) noted

pub returns-in-Ok-clause-asks : goal.returns-in-Ok-clause-asks
returns-in-Ok-clause-asks g c = and_then c.in-Ok.names c.note_each_zone.result _ _ _ c.in-Ok.ensures.asks c.note_each_zone.ensures.asks
