use Rattle.std.proofs.Common.{Ok, Err, ap, refl, sym, ◌∙◌}
use Rattle.std.specs.Option.{is_some}
use Rattle.command_base.specs.Statuses.{DiskFault}
use Rattle.binkp_mailer.specs.OverLines.{Is_broken, Takes_away}
use Rattle.binkp_mailer.proofs.Marked.{took_broken, took_status}
use Rattle.binkp_mailer.proofs.Outcomes.{broken_failed}
use Rattle.binkp_mailer.proofs.call_mark.free.Goals as goal

pub returns-then-is_some-clause-frees : goal.returns-then-is_some-clause-frees
returns-then-is_some-clause-frees g c = Is_broken (sym (ap is_some c.broken.ensures) ∙ sym c.is_some.ensures ∙ c.if-is_some.true) refl refl

pub returns-in-Ok-clause-frees : goal.returns-in-Ok-clause-frees
returns-in-Ok-clause-frees g c = Takes_away (Ok tt) c.in-Ok.ensures.marks refl

pub returns-in-Err-clause-frees : goal.returns-in-Err-clause-frees
returns-in-Err-clause-frees g c =
    Takes_away (Err c.in-Err.field-0) c.in-Err.ensures.marks
    (c.failed.ensures.had ∙ ap DiskFault c.faults-faults.ensures ∙ took_status _ c.in-Err.field-0 _ _ _ _ c.in-Err.ensures.marks.made)

pub returns-in-Err-clause-failed : goal.returns-in-Err-clause-failed
returns-in-Err-clause-failed g c = broken_failed c.failed.result _ _ (took_broken _ c.in-Err.field-0 _ _ c.in-Err.ensures.marks.made)
