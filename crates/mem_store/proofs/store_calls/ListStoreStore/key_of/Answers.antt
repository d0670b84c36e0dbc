use Rattle.std.proofs.Common.{ap, subst}
use Rattle.ftn_addr.specs.Key.{key_of}
use Rattle.node_model.specs.StoreWords.{KeyOf}
use Rattle.mem_store.specs.ListStates.{ListState, state_of}
use Rattle.mem_store.specs.contracts.list_store.ListStore.{the_view}
use Rattle.mem_store.proofs.Reading.{entry_at, key_there}
use Rattle.mem_store.proofs.Lookups.{entry_found}
use Rattle.mem_store.proofs.store_calls.ListStoreStore.key_of.Goals as goal

pub place_of_entry-place-requires : goal.place_of_entry-place-requires
place_of_entry-place-requires c =
    let s = the_view c.self.inside in
    let h = c.requires in
    rw (c.as_slice.ensures.value, ap (λ (z : ListState). z.queue) c.self.view_is) (entry_found c.args.number c.args.self.now.queue h.0 h.1 h.2)

pub returns-clause-entry : goal.returns-clause-entry
returns-clause-entry c =
    let s = the_view c.self.inside in
    let at = entry_at s c.args.number c.place_of_entry-place.result c.index.result.now c.as_slice.result.now c.self.invariant.0 c.as_slice.ensures.value c.place_of_entry-place.ensures.first c.place_of_entry-place.ensures.within c.index.ensures in
    subst (λ (z : ListState). KeyOf c.args.number (key_of c.key.result.now) (state_of z).stock.state.queue) c.self.view_is (key_there s c.args.number _ c.index.result.now _ at c.key.ensures.same)
