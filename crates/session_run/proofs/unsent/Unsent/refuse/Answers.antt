use Rattle.std.proofs.Common.{sym}
use Rattle.node_model.specs.Desks.{fault_of}
use Rattle.session_core.proofs.Bounds.{fault_short, written_short}
use Rattle.session_run.proofs.Unsents.{left_short, writes_left}
use Rattle.session_run.proofs.unsent.Unsent.refuse.Goals as goal

pub returns-clause-writes : goal.returns-clause-writes
returns-clause-writes c = writes_left _ c.self.inside.start _ _ _ _ _ (sym c.self.view_is) c.self.invariant c.refuse.ensures

pub returns-clause-short : goal.returns-clause-short
returns-clause-short c = left_short _ c.self.inside.start _ _ (sym c.self.view_is) c.self.invariant (written_short _ _ _ _ _ 25 (fault_short (fault_of c.args.fault)) c.refuse.ensures)
