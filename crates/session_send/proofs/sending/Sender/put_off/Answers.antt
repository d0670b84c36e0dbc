use Rattle.std.proofs.Common.{ℕ, Option, ap, refl, subst, sym}
use Rattle.ftn_addr.specs.Key.{key_of}
use Rattle.node_model.specs.Talk.{Sending, IsOther, SkipTaken, Passes_skip}
use Rattle.session_send.proofs.Taking as taking
use Rattle.session_send.proofs.sending.Sender.put_off.Goals as goal

pub returns-then-is_under_way-clause-row : goal.returns-then-is_under_way-clause-row
returns-then-is_under_way-clause-row g c = λ t out same.
    taking.put_off t (key_of c.args.key.now) _ _ _ _ _ _ _ out (ap (λ (n : ℕ). record { sent = c.args.self.now.sent; skipped = n }) c.saturating_add-self.ensures) same (c.is_under_way.ensures.under_way c.if-is_under_way.true) c.requires.claim c.skip.ensures.made

pub returns-else-is_under_way-clause-row : goal.returns-else-is_under_way-clause-row
returns-else-is_under_way-clause-row g c = λ t out same.
    let other = c.is_under_way.ensures.other c.if-is_under_way.false in
    taking.passed (SkipTaken t (key_of c.args.key.now)) t _ _ _ _ out same (Passes_skip (subst (λ (s : Option Sending). IsOther (key_of c.args.key.now) s) (sym same) other) refl refl)
