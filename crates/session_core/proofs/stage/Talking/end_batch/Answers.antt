use Rattle.std.proofs.Common.{refl, sym}
use Rattle.session_core.proofs.Gives.{batch_waits, batch_ends, batch_unsaid}
use Rattle.session_core.proofs.stage.Talking.end_batch.Goals as goal

pub returns-then-not-may_end-clause-ends : goal.returns-then-not-may_end-clause-ends
returns-then-not-may_end-clause-ends c = batch_waits _ _ (sym c.if-not-may_end.ensures)

pub returns-in-Ok-clause-ends : goal.returns-in-Ok-clause-ends
returns-in-Ok-clause-ends c = batch_ends _ _ _ _ (sym c.if-not-may_end.ensures) refl refl refl refl c.in-Ok.ensures.ok

pub returns-in-Err-clause-ends : goal.returns-in-Err-clause-ends
returns-in-Err-clause-ends c = batch_unsaid _ _ _ (sym c.if-not-may_end.ensures) c.in-Err.ensures.err
