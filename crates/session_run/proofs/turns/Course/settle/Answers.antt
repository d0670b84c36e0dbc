use Rattle.std.proofs.Common.{ap, sym, ◌∙◌}
use Rattle.node_model.specs.Desks.{settled_answer}
use Rattle.session_core.specs.Ends.{End, end_text}
use Rattle.session_run.specs.Machine.{Draining, Taking, after_leave}
use Rattle.session_run.specs.Runs.{over_or}
use Rattle.session_run.proofs.Openings.{left_it}
use Rattle.session_run.proofs.Runs.{went_nowhere, ends_at, starts_at}
use Rattle.session_run.proofs.turns.Course.settle.Goals as goal

pub returns-in-None-clause-went : goal.returns-in-None-clause-went
returns-in-None-clause-went g c = λ s line. starts_at (went_nowhere _ _ _ _) (ap (λ end. over_or end Taking) (sym c.in-None.is))

pub returns-in-Some-clause-went : goal.returns-in-Some-clause-went
returns-in-Some-clause-went g c = λ s line.
    let end = end_text c.in-Some.end in
    starts_at
    (ends_at (left_it g.K.Desk.alone s _ line (g.K.Desk.stand c.args.desk.now) (g.K.Desk.stand c.leave.new.self) end (settled_answer c.leave.result) c.leave.ensures.made)
    (ap (λ mute. Draining mute (after_leave end (settled_answer c.leave.result))) (sym c.is_mute-mute.ensures) ∙ ap (λ (e : End). Draining c.is_mute-mute.result e) (sym c.turned.ensures)))
    (ap (λ e. over_or e Taking) (sym c.in-Some.is))
