use Rattle.session_core.proofs.Gives.{gave_early}
use Rattle.session_core.proofs.session.Session.give.Goals as goal

pub returns-in-LogsIn-clause-row : goal.returns-in-LogsIn-clause-row
returns-in-LogsIn-clause-row g c = rw c.in-LogsIn.is (gave_early c.args.self.now.setting.block _ _ _ _ tt)
