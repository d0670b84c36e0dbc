use Rattle.std.proofs.Common.{true, false, refl, sym, ◌∙◌, ap}
use Rattle.mem_store.proofs.Lookups.{known_as}
use Rattle.mem_store.specs.ListStates.{ListState}
use Rattle.mem_store.proofs.store_calls.ListStoreStore.known.Goals as goal

pub returns-then-is_received : goal.returns-then-is_received
returns-then-is_received c =
    known_as _ _ c.args.self.now c.as_slice.result.now c.args.self.now.refused true _ (c.as_slice.ensures.value ∙ ap (λ (s : ListState). s.inbox) c.self.view_is) refl (sym c.is_received.ensures ∙ c.if-is_received.true) refl

pub returns-then-is_refused : goal.returns-then-is_refused
returns-then-is_refused c =
    known_as _ _ c.args.self.now c.as_slice.result.now c.as_slice-else-is_received.result.now false true (c.as_slice.ensures.value ∙ ap (λ (s : ListState). s.inbox) c.self.view_is) (c.as_slice-else-is_received.ensures.value ∙ ap (λ (s : ListState). s.refused) c.self.view_is) (sym c.is_received.ensures ∙ c.if-is_received.false) (sym c.is_refused.ensures ∙ c.if-is_refused.true)

pub returns-else-is_refused : goal.returns-else-is_refused
returns-else-is_refused c =
    known_as _ _ c.args.self.now c.as_slice.result.now c.as_slice-else-is_received.result.now false false (c.as_slice.ensures.value ∙ ap (λ (s : ListState). s.inbox) c.self.view_is) (c.as_slice-else-is_received.ensures.value ∙ ap (λ (s : ListState). s.refused) c.self.view_is) (sym c.is_received.ensures ∙ c.if-is_received.false) (sym c.is_refused.ensures ∙ c.if-is_refused.false)
