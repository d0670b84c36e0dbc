use Rattle.std.proofs.Common.{ap, inl, sym}
use Rattle.session_core.specs.Ends.{end_text}
use Rattle.session_run.specs.Machine.{Draining}
use Rattle.session_run.specs.Runs.{drained}
use Rattle.session_run.proofs.Closings.{closes_it, goes_at, goes_from, shut_turn}
use Rattle.session_run.proofs.turns.Course.drain.Goals as goal

pub returns-then-mute-clause-went : goal.returns-then-mute-clause-went
returns-then-mute-clause-went g c = λ alone s desk.
    shut_turn alone s _ c.args.self.now.run c.shut.new.self _ _ c.args.end _ c.shut.ensures.turn c.shut.ensures.line (closes_it alone s _ _ desk _ (end_text c.args.end) (inl c.if-mute.true))

pub returns-then-drain-clause-went : goal.returns-then-drain-clause-went
returns-then-drain-clause-went g c = λ alone s desk.
    shut_turn alone s _ c.drain.new.self c.shut-then-drain.new.self _ _ c.args.end _ c.shut-then-drain.ensures.turn c.shut-then-drain.ensures.line
    (goes_from (ap (λ mute. Draining mute (end_text c.args.end)) (sym c.if-mute.false)) (goes_at (c.drain.ensures.went alone s desk (end_text c.args.end)) (ap (λ b. drained b (end_text c.args.end)) c.if-drain.true)))
