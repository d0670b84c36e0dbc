use Rattle.std.proofs.Common.{sym}
use Rattle.session_core.proofs.Bounds.{written_short}
use Rattle.session_run.proofs.Bounds.{many_short}
use Rattle.session_run.proofs.Unsents.{left_short, writes_left}
use Rattle.session_run.proofs.unsent.Unsent.turn_away.Goals as goal

pub returns-clause-writes : goal.returns-clause-writes
returns-clause-writes c = writes_left _ c.self.inside.start _ _ _ _ _ (sym c.self.view_is) c.self.invariant c.turn_away.ensures

pub returns-clause-short : goal.returns-clause-short
returns-clause-short c = left_short _ c.self.inside.start _ _ (sym c.self.view_is) c.self.invariant (written_short _ _ _ _ _ 25 many_short c.turn_away.ensures)
