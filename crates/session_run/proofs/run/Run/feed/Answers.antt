use Rattle.std.proofs.Common.{refl}
use Rattle.session_run.specs.Machine.{Taking}
use Rattle.session_run.proofs.RowRuns.{fed_it}
use Rattle.session_run.proofs.Runs.{gave_up_at}
use Rattle.session_run.proofs.run.Run.feed.Goals as goal

pub returns-in-Ok-clause-ok : goal.returns-in-Ok-clause-ok
returns-in-Ok-clause-ok c = λ alone s line desk. fed_it alone s _ _ line desk _ c.pieces_add_up.ensures (rw (c.new-frames.ensures.items, c.as_slice.ensures) at c.in-Ok.ensures.ok) refl c.clear.ensures.empty refl refl refl

pub returns-in-Err-clause-err : goal.returns-in-Err-clause-err
returns-in-Err-clause-err c = λ alone s line desk. gave_up_at alone s _ _ line desk _ _ Taking tt refl refl refl refl
