use Rattle.std.proofs.Common.{◌≡◌, ◌<◌, ◌≤◌, subst, ◌++◌, length, ◌∙◌, ap, arith}
use Rattle.std.proofs.lemmas.List.{length-set}
use Rattle.node_model.specs.Node.{Record, Mark_record}
use Rattle.node_model.specs.Rows.{by}
use Rattle.node_model.specs.Stores.{StoreKept, Part_mark, Well}
use Rattle.mem_store.specs.Comings.{Coming}
use Rattle.mem_store.specs.ListStates.{ListState, stand_of}
use Rattle.mem_store.specs.contracts.list_store.ListStore.{the_view}
use Rattle.mem_store.proofs.Kept.{from_called}
use Rattle.mem_store.proofs.PartCalls.{part_stands, seen, at_place, number_at, marks, marks_nothing, order_mark, is_more, is_no_more, one_part}
use Rattle.mem_store.proofs.store_calls.ListStoreStore.part_mark.Goals as goal

pub place_of_part-place-requires : goal.place_of_part-place-requires
place_of_part-place-requires c =
    rw c.as_slice.ensures.value (part_stands (the_view c.self.inside) c.args.part _ c.self.invariant.0 (seen _ _ c.args.part _ (c.self.view_is ∙ c.in_ok-count_call.ensures.ok) c.requires.is_open.is))

pub returns-then-not-is_ahead-clause-kept : goal.returns-then-not-is_ahead-clause-kept
returns-then-not-is_ahead-clause-kept c =
    let s = the_view c.self.inside in
    let at = at_place s c.place_of_part-place.result c.index.result.now c.as_slice.result.now c.self.invariant.0 c.as_slice.ensures.value c.place_of_part-place.ensures.within c.index.ensures in
    let number = number_at s c.args.part _ c.index.result.now c.as_slice.result.now c.as_slice.ensures.value c.place_of_part-place.ensures.first c.place_of_part-place.ensures.within c.index.ensures in
    subst (λ (z : ListState). StoreKept (stand_of c.args.self.now) (Part_mark c.args.part) Well (stand_of z)) c.self.view_is (from_called _ _ _ _ _ (c.self.view_is ∙ c.in_ok-count_call.ensures.ok) (marks_nothing s c.args.part _ c.index.result.now at number c.is_ahead.ensures.within (is_no_more _ _ _ c.is_ahead.ensures.ahead c.if-not-is_ahead.true)))

pub invariant_of-self : goal.invariant_of-self
invariant_of-self c =
    let s = the_view c.self.inside in
    let at = at_place s c.place_of_part-place.result c.index_mut.result.now c.as_slice.result.now c.self.invariant.0 c.as_slice.ensures.value c.place_of_part-place.ensures.within c.index_mut.ensures.value in (
      order_mark s _ c.index_mut.result.now c.put_mark-record.new.self at c.put_mark-record.ensures.after,
      record {
        receipts = rw length-set c.self.invariant.1.receipts;
        records = omega (arith, c.self.invariant.1.records, c.append.ensures.len, c.append.ensures.capacity);
        places_left = omega (arith, c.self.invariant.1.places_left, c.take_place-room.ensures);
      },
    )

pub returns-clause-kept : goal.returns-clause-kept
returns-clause-kept c =
    let s = the_view c.self.inside in
    let at = at_place s c.place_of_part-place.result c.index_mut.result.now c.as_slice.result.now c.self.invariant.0 c.as_slice.ensures.value c.place_of_part-place.ensures.within c.index_mut.ensures.value in
    let number = number_at s c.args.part _ c.index_mut.result.now c.as_slice.result.now c.as_slice.ensures.value c.place_of_part-place.ensures.first c.place_of_part-place.ensures.within c.index_mut.ensures.value in
    let same = one_part s.parts _ c.index.result.now c.index_mut.result.now at.within c.index.ensures c.index_mut.ensures.value in
    let within = subst (λ (p : Coming). p.marked ≤ length p.bytes) same c.is_ahead.ensures.within in
    let more = subst (λ (p : Coming). p.marked < length p.bytes) same (is_more _ _ _ c.is_ahead.ensures.ahead c.if-not-is_ahead.false) in
    let log : c.append.new.log.items ≡ s.log ++ by s.seat (Mark_record c.index_mut.result.now.number c.index_mut.result.now.from c.index_mut.result.now.key (length c.index_mut.result.now.bytes)) = c.append.ensures.items ∙ ap (λ (r : Record). s.log ++ by s.seat r) c.put_mark-record.ensures.recorded in
    rw log (from_called _ _ _ _ _ (c.self.view_is ∙ c.in_ok-count_call.ensures.ok) (marks s c.args.part _ c.index_mut.result.now c.put_mark-record.new.self at number within more c.put_mark-record.ensures.after))
