use Rattle.std.proofs.Common.{arith}
use Rattle.session_core.specs.Replies.{setting_in}
use Rattle.session_run.proofs.RowRuns.{passes_turn_it}
use Rattle.session_run.proofs.Runs.{went_still}
use Rattle.session_run.proofs.run.Run.give_if_few.Goals as goal

pub returns-then-left-gt-MOST_TO_TURN-clause-went : goal.returns-then-left-gt-MOST_TO_TURN-clause-went
returns-then-left-gt-MOST_TO_TURN-clause-went g c = λ conf line.
    went_still (g.K.Desk.stand c.args.desk.now) (passes_turn_it g.K.Desk.alone (setting_in c.args.self.now.session conf) c.args.self.now line (g.K.Desk.stand c.args.desk.now).state c.requires.piece (omega arith))
