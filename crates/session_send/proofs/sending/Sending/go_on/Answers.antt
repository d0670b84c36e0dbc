use Rattle.std.proofs.Common.{inr}
use Rattle.session_send.proofs.Stepping.{gave_up, filled, awaits}
use Rattle.session_send.proofs.sending.Sending.go_on.Goals as goal

pub returns-in-Ok-clause-row : goal.returns-in-Ok-clause-row
returns-in-Ok-clause-row g c = filled _ _ _ _ _ _ c.if-self-2.true c.in-Ok.ensures.ok

pub returns-in-Err-clause-row : goal.returns-in-Err-clause-row
returns-in-Err-clause-row g c = gave_up _ _ _ _ _ _ (inr c.if-self-2.true) c.in-Err.ensures.err

pub returns-else-self-2-clause-row : goal.returns-else-self-2-clause-row
returns-else-self-2-clause-row g c = awaits _ _ _ _ _ c.if-self-2.false c.if-self.false
