use Rattle.std.proofs.Common.{◌∙◌, List, ℕ, ap, map, take, sym, subst}
use Rattle.std.proofs.lemmas.List.{take_all}
use Rattle.ftn_addr.specs.declared.byte_list.Bytes.{Bytes}
use Rattle.node_model.specs.Lists.{Member}
use Rattle.node_model.specs.StoreStates.{IfTold, StoreState}
use Rattle.node_store.specs.Stored.{stand_of}
use Rattle.node_model.specs.Outside.{path_in}
use Rattle.bso_outbound.specs.Paths.{folder_above}
use Rattle.outbound_places.specs.Outbound.{Finds, IsBelow, IsEntry, IsInOne}
use Rattle.outbound_addresses.proofs.Asked.{and_then}
use Rattle.outbound_addresses.proofs.NotedZones.{there_at}
use Rattle.outbound_addresses.proofs.Walk.{Walks, taken_more, told_map, walk_more}
use Rattle.outbound_addresses.proofs.zones.note_each_zone.Goals as goal

pub note_zone_of-requires-clause-whole : goal.note_zone_of-requires-clause-whole
note_zone_of-requires-clause-whole g c = ap (λ (s : StoreState). s.counts.broken) c.loop-name.invariant.asked.made ∙ c.requires.whole

pub loop-name-preserved : goal.loop-name-preserved
loop-name-preserved g c =
    let start = stand_of g.D.Disk.tells g.D.Disk.content g.D.Disk.fault_count g.D.Disk.moment g.D.Disk.images c.args.store.now in
    let mid = stand_of g.D.Disk.tells g.D.Disk.content g.D.Disk.fault_count g.D.Disk.moment g.D.Disk.images c.loop-name.store in
    let end' = stand_of g.D.Disk.tells g.D.Disk.content g.D.Disk.fault_count g.D.Disk.moment g.D.Disk.images c.note_zone_of.new.store in
    let base = c.args.outbound.base.now.list in
    let zone = c.args.outbound.zone in
    let At : List ℕ → List ℕ → Type 0 = λ name. IsBelow (path_in (folder_above c.args.outbound.base.now.list) name) in
    let so_far = map (λ name. name.list) (take c.loop-name.name-index c.args.names.now) in
    let there : Member c.name-item.result.list (map (λ name. name.list) c.args.names.now) = there_at (λ name. name.list) c.args.names.now c.loop-name.name-index c.name-item.result c.loop-name-test.true c.name-item.is in
    subst (λ (l : List (List ℕ)). Walks base zone At (((n : List ℕ) → Member n (map (λ name. name.list) c.args.names.now) → IsEntry n)) l start end' c.args.found.now c.note_zone_of.new.found) (sym (taken_more (λ name. name.list) c.args.names.now c.loop-name.name-index c.name-item.result c.loop-name-test.true c.name-item.is))
    (walk_more base zone At (((n : List ℕ) → Member n (map (λ name. name.list) c.args.names.now) → IsEntry n)) so_far c.name-item.result.list start mid end' c.args.found.now c.loop-name.found c.note_zone_of.new.found c.loop-name.invariant c.in-Ok.ensures.grows (told_map mid.state.content _ _ (λ s finds given. finds (given c.name-item.result.list there)) c.in-Ok.ensures.finds) c.in-Ok.ensures.asks)

pub returns-in-Err-clause-asks : goal.returns-in-Err-clause-asks
returns-in-Err-clause-asks g c = and_then tt _ _ _ _ c.loop-name.invariant.asked c.in-Err.ensures.asks

pub returns-clause-finds : goal.returns-clause-finds
returns-clause-finds g c =
    let start = stand_of g.D.Disk.tells g.D.Disk.content g.D.Disk.fault_count g.D.Disk.moment g.D.Disk.images c.args.store.now in
    subst (λ (l : List Bytes). IfTold start.state.content (λ s. ((n : List ℕ) → Member n (map (λ name. name.list) c.args.names.now) → IsEntry n) → Finds c.args.outbound.base.now.list c.args.outbound.zone s.outside (IsInOne (folder_above c.args.outbound.base.now.list) (map (λ name. name.list) l)) c.args.found.now c.loop-name.found)) (take_all c.loop-name.name-index c.args.names.now c.loop-name-test.false)
    (told_map start.state.content _ _ (λ s finds entries. finds entries) c.loop-name.invariant.finds)
