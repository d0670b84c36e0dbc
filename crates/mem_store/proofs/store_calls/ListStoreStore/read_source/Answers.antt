use Rattle.std.proofs.Common.{◌-◌, min, length, take, ◌∙◌, ap, subst}
use Rattle.node_model.specs.Stores.{StoreKept, Read_source, Came}
use Rattle.node_model.specs.StoreWords.{size_of_entry}
use Rattle.mem_store.specs.ListStates.{ListState, state_of, stand_of}
use Rattle.mem_store.specs.contracts.list_store.ListStore.{the_view}
use Rattle.mem_store.proofs.Kept.{from_called}
use Rattle.mem_store.proofs.Reading.{entry_at, seen_live, live_stands, is_live_there, reads_source, source_size}
use Rattle.mem_store.proofs.store_calls.ListStoreStore.read_source.Goals as goal

pub place_of_entry-place-requires : goal.place_of_entry-place-requires
place_of_entry-place-requires c =
    rw c.as_slice.ensures.value (live_stands (the_view c.self.inside) c.args.number (seen_live _ _ c.args.number (c.self.view_is ∙ c.in_ok-count_read.ensures.ok) c.requires.live))

pub content-requires : goal.content-requires
content-requires c =
    let s = the_view c.self.inside in
    let at = entry_at s c.args.number c.place_of_entry-place.result c.index.result.now c.as_slice.result.now c.self.invariant.0 c.as_slice.ensures.value c.place_of_entry-place.ensures.first c.place_of_entry-place.ensures.within c.index.ensures in
    is_live_there s c.args.number _ c.index.result.now at (seen_live _ _ c.args.number (c.self.view_is ∙ c.in_ok-count_read.ensures.ok) c.requires.live)

pub returns-clause-kept : goal.returns-clause-kept
returns-clause-kept c =
    let s = the_view c.self.inside in
    let at = entry_at s c.args.number c.place_of_entry-place.result c.index.result.now c.as_slice.result.now c.self.invariant.0 c.as_slice.ensures.value c.place_of_entry-place.ensures.first c.place_of_entry-place.ensures.within c.index.ensures in
    subst (λ (z : ListState). StoreKept (stand_of c.args.self.now) (Read_source c.args.number c.args.at (length c.args.out.now)) (Came (take c.copy_from.result c.copy_from.new.out)) (stand_of z)) c.self.view_is (from_called _ _ _ _ _ (c.self.view_is ∙ c.in_ok-count_read.ensures.ok) (reads_source s c.args.number _ c.args.at _ c.index.result.now c.content.result.now _ at c.content.ensures c.copy_from.ensures.section))

pub returns-clause-length : goal.returns-clause-length
returns-clause-length c =
    let s = the_view c.self.inside in
    let at = entry_at s c.args.number c.place_of_entry-place.result c.index.result.now c.as_slice.result.now c.self.invariant.0 c.as_slice.ensures.value c.place_of_entry-place.ensures.first c.place_of_entry-place.ensures.within c.index.ensures in
    let live = seen_live _ _ c.args.number (c.self.view_is ∙ c.in_ok-count_read.ensures.ok) c.requires.live in
    let same = c.self.view_is ∙ c.in_ok-count_read.ensures.ok in
    let size = source_size s c.args.number _ c.index.result.now c.content.result.now at live c.content.ensures in
    c.copy_from.ensures.count ∙ ap (λ n. min (length c.args.out.now) (n - c.args.at)) (size ∙ ap (λ (z : ListState). size_of_entry c.args.number (state_of z).stock.state.queue) same)
