use Rattle.node_model.specs.Talk.{GotTaken, Passes_got}
use Rattle.std.proofs.Common.{ℕ, ap, refl, subst, sym}
use Rattle.ftn_addr.specs.Key.{key_of}
use Rattle.session_send.proofs.Taking.{passed, settled, settling_refused}
use Rattle.node_model.specs.Talk.{IsOther}
use Rattle.node_model.specs.Talk.{Sending}
use Rattle.std.proofs.Common.{Option}
use Rattle.session_send.proofs.sending.Sender.settle.Goals as goal

pub returns-then-not-is_under_way-clause-row : goal.returns-then-not-is_under_way-clause-row
returns-then-not-is_under_way-clause-row g c = λ t out same.
    let other = c.is_under_way.ensures.other c.if-not-is_under_way.true in
    passed (GotTaken t (key_of c.args.key.now)) t _ _ _ _ out same (Passes_got (subst (λ (s : Option Sending). IsOther (key_of c.args.key.now) s) (sym same) other) refl refl)

pub returns-in-Ok-clause-row : goal.returns-in-Ok-clause-row
returns-in-Ok-clause-row g c = λ t out same.
    settled t (key_of c.args.key.now) _ _ _ _ _ _ _ out (ap (λ (n : ℕ). record { sent = n; skipped = c.args.self.now.skipped }) c.saturating_add-self.ensures) same (c.is_under_way.ensures.under_way c.if-not-is_under_way.false) c.requires.claim c.in-Ok.ensures.made

pub returns-in-Err-clause-row : goal.returns-in-Err-clause-row
returns-in-Err-clause-row g c = λ t out same.
    settling_refused t (key_of c.args.key.now) _ _ c.in-Err.fault _ _ _ _ out same (c.is_under_way.ensures.under_way c.if-not-is_under_way.false) c.requires.claim c.in-Err.ensures.made
