use Rattle.std.proofs.Common.{◌≡◌, None, option_map, length, ◌∙◌, subst}
use Rattle.ftn_addr.specs.Address.{address}
use Rattle.ftn_addr.specs.Key.{key_of}
use Rattle.node_model.specs.Durable.{mark_of, durable_map}
use Rattle.node_model.specs.StoreWords.{part_at}
use Rattle.mem_store.specs.Comings.{mark_in}
use Rattle.mem_store.specs.ListStates.{ListState, durable_of}
use Rattle.mem_store.specs.contracts.list_store.ListStore.{the_view}
use Rattle.mem_store.proofs.Lookups.{mark_told, mark_there, no_mark}
use Rattle.mem_store.proofs.Opening.{file_there, no_file_at}
use Rattle.mem_store.proofs.store_calls.ListStoreStore.mark_of.Goals as goal

pub returns-in-Some : goal.returns-in-Some
returns-in-Some c =
    let s = the_view c.self.inside in
    let from = address c.args.from.now in
    let key = key_of c.args.key.now in
    let h = file_there s from key c.in-Some.place c.index.result.now c.as_slice.result.now _ c.self.invariant.0 c.as_slice.ensures.value c.place_of_file.ensures c.in-Some.is c.index.ensures in
    subst (λ (z : ListState). c.mark.result ≡ option_map part_at (mark_of from key (durable_map length (durable_of z)))) c.self.view_is (c.mark.ensures ∙ mark_told from key s (mark_in c.index.result.now) (mark_there from key s.parts _ c.index.result.now h.0.order.apart h.0.within h.0.is h.1))

pub returns-in-None : goal.returns-in-None
returns-in-None c =
    let s = the_view c.self.inside in
    let from = address c.args.from.now in
    let key = key_of c.args.key.now in
    let none = no_file_at s from key c.as_slice.result.now _ c.as_slice.ensures.value c.place_of_file.ensures c.in-None.is in
    subst (λ (z : ListState). None ≡ option_map part_at (mark_of from key (durable_map length (durable_of z)))) c.self.view_is (mark_told from key s None (no_mark from key s.parts none))
