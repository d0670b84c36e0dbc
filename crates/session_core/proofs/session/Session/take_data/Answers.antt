use Rattle.std.proofs.Common.{refl, inl}
use Rattle.session_core.proofs.Dids.{did_break, made_row}
use Rattle.session_core.proofs.Logins.{talk_stays}
use Rattle.session_core.proofs.session.Session.take_data.Goals as goal

pub returns-in-LogsIn-clause-row : goal.returns-in-LogsIn-clause-row
returns-in-LogsIn-clause-row g c = rw c.in-LogsIn.is (inl (made_row _ _ _ _ _ _ _ _ _ refl (did_break _ _ _ _ _ _ _ c.break_off.ensures)))

pub returns-in-Talks-clause-row : goal.returns-in-Talks-clause-row
returns-in-Talks-clause-row g c = rw c.in-Talks.is (inl (talk_stays _ _ _ _ _ _ _ _ _ _ _ _ _ refl c.take_data.ensures.row))
