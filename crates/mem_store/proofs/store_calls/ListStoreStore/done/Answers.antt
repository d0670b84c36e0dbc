use Rattle.std.proofs.Common.{◌∙◌, arith}
use Rattle.mem_store.specs.contracts.list_store.ListStore.{the_view}
use Rattle.mem_store.proofs.Kept.{from_called}
use Rattle.mem_store.proofs.Reading.{entry_at, order_settle, settles, seen_live, live_stands}
use Rattle.mem_store.proofs.store_calls.ListStoreStore.done.Goals as goal

pub place_of_entry-place-requires : goal.place_of_entry-place-requires
place_of_entry-place-requires c =
    rw c.as_slice.ensures.value (live_stands (the_view c.self.inside) c.args.number (seen_live _ _ c.args.number (c.self.view_is ∙ c.in_ok-count_call.ensures.ok) c.requires.live))

pub invariant_of-self : goal.invariant_of-self
invariant_of-self c =
    let s = the_view c.self.inside in
    let at = entry_at s c.args.number c.place_of_entry-place.result c.index_mut.result.now c.as_slice.result.now c.self.invariant.0 c.as_slice.ensures.value c.place_of_entry-place.ensures.first c.place_of_entry-place.ensures.within c.index_mut.ensures.value in (
      order_settle s c.args.number _ c.index_mut.result.now c.settle.new.self at c.settle.ensures,
      record {
        receipts = c.self.invariant.1.receipts;
        records = omega (arith, c.self.invariant.1.records, c.append.ensures.len, c.append.ensures.capacity);
        places_left = omega (arith, c.self.invariant.1.places_left);
      },
    )

pub returns-clause-kept : goal.returns-clause-kept
returns-clause-kept c =
    let s = the_view c.self.inside in
    let at = entry_at s c.args.number c.place_of_entry-place.result c.index_mut.result.now c.as_slice.result.now c.self.invariant.0 c.as_slice.ensures.value c.place_of_entry-place.ensures.first c.place_of_entry-place.ensures.within c.index_mut.ensures.value in
    rw c.append.ensures.items (from_called _ _ _ _ _ (c.self.view_is ∙ c.in_ok-count_call.ensures.ok) (settles s c.args.number c.args.session _ c.index_mut.result.now c.settle.new.self at c.settle.ensures))
