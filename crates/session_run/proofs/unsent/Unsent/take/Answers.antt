use Rattle.std.proofs.Common.{sym}
use Rattle.session_run.proofs.Unsents.{row_left}
use Rattle.session_run.proofs.unsent.Unsent.take.Goals as goal

pub returns-clause-row : goal.returns-clause-row
returns-clause-row g c = row_left _ c.self.inside.start _ _ _ _ _ _ _ _ _ _ (sym c.self.view_is) c.self.invariant c.take.ensures.row
