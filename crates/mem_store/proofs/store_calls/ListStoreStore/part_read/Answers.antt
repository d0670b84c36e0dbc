use Rattle.std.proofs.Common.{◌-◌, min, length, take, ◌∙◌, ap, subst}
use Rattle.node_model.specs.Stores.{StoreKept, Read_part, Came}
use Rattle.node_model.specs.StoreWords.{size_of_receipt}
use Rattle.mem_store.specs.ListStates.{ListState, state_of, stand_of}
use Rattle.mem_store.specs.contracts.list_store.ListStore.{the_view}
use Rattle.mem_store.proofs.Kept.{from_called}
use Rattle.mem_store.proofs.Reading.{receipt_at, seen_kept, kept_stands, reads_receipt, receipt_size}
use Rattle.mem_store.proofs.store_calls.ListStoreStore.part_read.Goals as goal

pub place_of_receipt-place-requires : goal.place_of_receipt-place-requires
place_of_receipt-place-requires c =
    rw c.as_slice.ensures.value (kept_stands (the_view c.self.inside) c.args.receipt (seen_kept _ _ c.args.receipt (c.self.view_is ∙ c.in_ok-count_call.ensures.ok) c.requires.kept))

pub returns-clause-kept : goal.returns-clause-kept
returns-clause-kept c =
    let s = the_view c.self.inside in
    let at = receipt_at s c.args.receipt c.place_of_receipt-place.result c.index.result.now c.as_slice.result.now c.self.invariant.0 c.as_slice.ensures.value c.place_of_receipt-place.ensures.first c.place_of_receipt-place.ensures.within c.index.ensures in
    let same = c.self.view_is ∙ c.in_ok-count_call.ensures.ok in
    subst (λ (z : ListState). StoreKept (stand_of c.args.self.now) (Read_part c.args.receipt c.args.at (length c.args.out.now)) (Came (take c.copy_from.result c.copy_from.new.out)) (stand_of z)) c.self.view_is (from_called _ _ _ _ _ same (reads_receipt s c.args.receipt _ c.args.at _ c.index.result.now c.content.result.now _ at c.content.ensures c.copy_from.ensures.section))

pub returns-clause-length : goal.returns-clause-length
returns-clause-length c =
    let s = the_view c.self.inside in
    let at = receipt_at s c.args.receipt c.place_of_receipt-place.result c.index.result.now c.as_slice.result.now c.self.invariant.0 c.as_slice.ensures.value c.place_of_receipt-place.ensures.first c.place_of_receipt-place.ensures.within c.index.ensures in
    let same = c.self.view_is ∙ c.in_ok-count_call.ensures.ok in
    let size = receipt_size s c.args.receipt _ c.index.result.now c.content.result.now at (seen_kept _ _ c.args.receipt same c.requires.kept) c.content.ensures in
    c.copy_from.ensures.count ∙ ap (λ n. min (length c.args.out.now) (n - c.args.at)) (size ∙ ap (λ (z : ListState). size_of_receipt c.args.receipt (state_of z).stock.state.inbox) same)
