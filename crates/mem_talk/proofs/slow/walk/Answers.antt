use Rattle.std.proofs.Common.{◌≤◌, ◌^◌, ℕ, ap, sym, subst}
use Rattle.session_core.specs.Replies.{Lent}
use Rattle.mem_talk.proofs.slow.walk.Goals as goal

pub loop-made-preserved : goal.loop-made-preserved
loop-made-preserved g c = record {
  is_ready = c.turn.ensures.ready;
  may = c.in-More.ensures.may;
  limit = subst (λ (n : ℕ). n ≤ 2 ^ 62) (ap (λ (l : Lent). l.limit) (sym c.in-More.ensures.lent)) c.loop-made.invariant.limit;
  unclosed = c.in-More.ensures.open;
}
