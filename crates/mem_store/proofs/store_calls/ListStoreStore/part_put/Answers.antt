use Rattle.std.proofs.Common.{◌∙◌}
use Rattle.std.proofs.lemmas.List.{length-set}
use Rattle.mem_store.specs.contracts.list_store.ListStore.{the_view}
use Rattle.mem_store.proofs.Kept.{from_called}
use Rattle.mem_store.proofs.PartCalls.{part_stands, seen, at_place, number_at, fits_there, puts, order_put}
use Rattle.mem_store.proofs.store_calls.ListStoreStore.part_put.Goals as goal

pub place_of_part-place-requires : goal.place_of_part-place-requires
place_of_part-place-requires c =
    rw c.as_slice.ensures.value (part_stands (the_view c.self.inside) c.args.part _ c.self.invariant.0 (seen _ _ c.args.part _ (c.self.view_is ∙ c.in_ok-count_call.ensures.ok) c.requires.fits.is))

pub put-requires : goal.put-requires
put-requires c =
    let s = the_view c.self.inside in
    let at = at_place s c.place_of_part-place.result c.index_mut.result.now c.as_slice.result.now c.self.invariant.0 c.as_slice.ensures.value c.place_of_part-place.ensures.within c.index_mut.ensures.value in
    fits_there s c.args.part _ _ c.requires.fits.part _ at (number_at s c.args.part _ c.index_mut.result.now c.as_slice.result.now c.as_slice.ensures.value c.place_of_part-place.ensures.first c.place_of_part-place.ensures.within c.index_mut.ensures.value) (seen _ _ c.args.part _ (c.self.view_is ∙ c.in_ok-count_call.ensures.ok) c.requires.fits.is) c.requires.fits.fits

pub invariant_of-self : goal.invariant_of-self
invariant_of-self c =
    let s = the_view c.self.inside in
    let at = at_place s c.place_of_part-place.result c.index_mut.result.now c.as_slice.result.now c.self.invariant.0 c.as_slice.ensures.value c.place_of_part-place.ensures.within c.index_mut.ensures.value in
    (order_put s _ c.args.bytes.now c.index_mut.result.now c.put.new.self at c.put.ensures.after, rw length-set c.self.invariant.1)

pub returns-clause-kept : goal.returns-clause-kept
returns-clause-kept c =
    let s = the_view c.self.inside in
    let at = at_place s c.place_of_part-place.result c.index_mut.result.now c.as_slice.result.now c.self.invariant.0 c.as_slice.ensures.value c.place_of_part-place.ensures.within c.index_mut.ensures.value in
    let number = number_at s c.args.part _ c.index_mut.result.now c.as_slice.result.now c.as_slice.ensures.value c.place_of_part-place.ensures.first c.place_of_part-place.ensures.within c.index_mut.ensures.value in
    from_called _ _ _ _ _ (c.self.view_is ∙ c.in_ok-count_call.ensures.ok) (puts s c.args.part _ c.args.bytes.now c.index_mut.result.now c.put.new.self at number c.put.ensures.within c.put.ensures.after)
