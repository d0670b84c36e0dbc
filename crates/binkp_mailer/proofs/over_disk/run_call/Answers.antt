use Rattle.binkp_mailer.specs.Reports.{had_of, told_of}
use Rattle.binkp_mailer.proofs.Completing.{printed_behind}
use Rattle.binkp_mailer.proofs.DiskCalls.{keeps_receipts}
use Rattle.binkp_mailer.proofs.DiskCauses.{told_cause}
use Rattle.command_base.proofs.Printed.{printed_out}
use Rattle.binkp_mailer.proofs.TopPrints.{had_not_out}
use Rattle.binkp_mailer.proofs.over_disk.run_call.Goals as goal

pub returns-clause-call : goal.returns-clause-call
returns-clause-call g c = record { told = told_of c.call_disk-outcome.result.0; had = had_of c.call_disk-outcome.result.0; call = c.call_disk-outcome.ensures; prints = c.print.ensures; done = printed_behind c.call_disk-outcome.result.0 _ _ _ c.print.ensures }

pub returns-clause-out_cause : goal.returns-clause-out_cause
returns-clause-out_cause g c = printed_out _ _ _ _ _ c.print.ensures (had_not_out c.call_disk-outcome.result.0)

pub returns-clause-stays : goal.returns-clause-stays
returns-clause-stays g c = λ telling. keeps_receipts _ _ _ _ _ _ _ _ _ _ _ _ _ _ telling c.call_disk-outcome.ensures

pub returns-clause-cause : goal.returns-clause-cause
returns-clause-cause g c = told_cause _ _ _ _ _ _ _ _ _ _ _ _ _ _ _ _ _ c.call_disk-outcome.ensures c.print.ensures
