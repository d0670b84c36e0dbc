use Rattle.std.proofs.Common.{refl, inl, inr, []}
use Rattle.command_base.proofs.Printed.{printed_out}
use Rattle.trial_command.specs.Line.{totals_text}
use Rattle.trial_command.specs.Trial.{Had_no_memory, Was_held}
use Rattle.trial_command.proofs.Printed.{printed_status}
use Rattle.trial_command.proofs.trial.run_trial.Goals as goal

pub returns-in-Ok-clause-call : goal.returns-in-Ok-clause-call
returns-in-Ok-clause-call g c =
    let held = c.in-Ok.ensures in
    Was_held held.0 held.1 (c.print_lines.ensures (totals_text held.0) held.2)

pub returns-in-Ok-clause-status : goal.returns-in-Ok-clause-status
returns-in-Ok-clause-status g c = printed_status _ _ _ _ _ (c.print_lines.ensures c.in-Ok.line.list refl) (inl refl)

pub returns-in-Ok-clause-out_cause : goal.returns-in-Ok-clause-out_cause
returns-in-Ok-clause-out_cause g c = printed_out _ _ _ _ _ (c.print_lines.ensures c.in-Ok.line.list refl) tt

pub returns-in-Err-clause-call : goal.returns-in-Err-clause-call
returns-in-Err-clause-call g c = Had_no_memory (c.print_lines-in-Err.ensures [] c.new.ensures)

pub returns-in-Err-clause-status : goal.returns-in-Err-clause-status
returns-in-Err-clause-status g c = printed_status _ _ _ _ _ (c.print_lines-in-Err.ensures [] c.new.ensures) (inr refl)

pub returns-in-Err-clause-out_cause : goal.returns-in-Err-clause-out_cause
returns-in-Err-clause-out_cause g c = printed_out _ _ _ _ _ (c.print_lines-in-Err.ensures [] c.new.ensures) tt
