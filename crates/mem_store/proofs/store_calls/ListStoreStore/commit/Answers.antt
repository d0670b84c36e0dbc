use Rattle.std.proofs.Common.{◌≡◌, ◌++◌, ◌∙◌, ap, arith}
use Rattle.node_model.specs.Node.{Record, Received_record}
use Rattle.node_model.specs.Rows.{by}
use Rattle.mem_store.specs.contracts.list_store.ListStore.{the_view}
use Rattle.mem_store.proofs.Kept.{from_called}
use Rattle.mem_store.proofs.PartCalls.{part_stands, seen, at_place, number_at, commits, order_commit}
use Rattle.mem_store.proofs.store_calls.ListStoreStore.commit.Goals as goal

pub place_of_part-place-requires : goal.place_of_part-place-requires
place_of_part-place-requires c =
    rw c.as_slice.ensures.value (part_stands (the_view c.self.inside) c.args.part _ c.self.invariant.0 (seen _ _ c.args.part _ (c.self.view_is ∙ c.in_ok-count_call.ensures.ok) c.requires.all.is))

pub invariant_of-self : goal.invariant_of-self
invariant_of-self c =
    let s = the_view c.self.inside in
    let at = at_place s c.place_of_part-place.result c.remove-part.result c.as_slice.result.now c.self.invariant.0 c.as_slice.ensures.value c.place_of_part-place.ensures.within c.remove-part.ensures.value in (
      rw (c.put.ensures.items, c.remove-part.ensures.items) (order_commit s _ c.remove-part.result c.receive.result c.args.secure at c.receive.ensures),
      record {
        receipts = omega (arith, c.self.invariant.1.receipts, c.put.ensures.len, c.put.ensures.capacity, c.remove-part.ensures.len, c.remove-part.new.self.ok.0, c.self.inside.parts.ok.0);
        records = omega (arith, c.self.invariant.1.records, c.append.ensures.len, c.append.ensures.capacity);
        places_left = omega (arith, c.self.invariant.1.places_left, c.take_place.ensures);
      },
    )

pub returns-clause-kept : goal.returns-clause-kept
returns-clause-kept c =
    let s = the_view c.self.inside in
    let at = at_place s c.place_of_part-place.result c.remove-part.result c.as_slice.result.now c.self.invariant.0 c.as_slice.ensures.value c.place_of_part-place.ensures.within c.remove-part.ensures.value in
    let number = number_at s c.args.part _ c.remove-part.result c.as_slice.result.now c.as_slice.ensures.value c.place_of_part-place.ensures.first c.place_of_part-place.ensures.within c.remove-part.ensures.value in
    let log : c.append.new.log.items ≡ s.log ++ by s.seat (Received_record c.remove-part.result.number c.remove-part.result.from c.remove-part.result.key c.args.session c.args.secure) = c.append.ensures.items ∙ ap (λ (r : Record). s.log ++ by s.seat r) c.receipt_record-record.ensures in
    rw (log, c.put.ensures.items, c.remove-part.ensures.items) (from_called _ _ _ _ _ (c.self.view_is ∙ c.in_ok-count_call.ensures.ok) (commits s c.args.part _ c.args.session c.args.secure c.remove-part.result c.receive.result at number c.receive.ensures))
