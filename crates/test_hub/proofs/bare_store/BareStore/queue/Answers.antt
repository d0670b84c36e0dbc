use Rattle.std.proofs.Common.{◌≡◌, Bool, true, false, Result, Ok, Err, IfOk, is_ok, sym, ◌∙◌}
use Rattle.test_hub.proofs.bare_store.BareStore.queue.Goals.{then-fits, else-fits}
use Rattle.test_hub.proofs.bare_store.BareStore.queue.Goals as goal

-- a call that went well kept it
kept : {X E : Type 0} (r : Result X E) (b : Bool) (P Q : Type 0) → b ≡ is_ok r → b ≡ true → IfOk r (λ _. P → Q) → P → Q
kept (Ok x) b P Q is well stays p = stays p
kept (Err e) b P Q is well stays p = let bad : false ≡ true = sym is ∙ well in absurd (cc)

pub invariant_of-self : goal.invariant_of-self
invariant_of-self c = elim c.if-fits.branch [
  | then-fits w ↦ λ t. kept c.queue_bytes-queued.result c.if-fits.self _ _ (w.self-is ∙ w.is_ok-self-inside.ensures.value) t c.queue_bytes-queued.ensures (c.self.invariant (sym (w.if-fits.ensures).value))
  | else-fits w ↦ λ t. absurd (let bad : false ≡ true = sym w.if-fits.false ∙ (sym w.self-is ∙ t) in cc)
]
