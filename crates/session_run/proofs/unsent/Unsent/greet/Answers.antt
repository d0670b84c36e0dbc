use Rattle.std.proofs.Common.{sym}
use Rattle.session_run.proofs.Unsents.{writes_left}
use Rattle.session_run.proofs.unsent.Unsent.greet.Goals as goal

pub returns-clause-writes : goal.returns-clause-writes
returns-clause-writes c = writes_left _ c.self.inside.start _ _ _ _ _ (sym c.self.view_is) c.self.invariant c.greet.ensures.writes
