use Rattle.std.proofs.Common.{refl}
use Rattle.session_run.proofs.RowRuns.{gave_it}
use Rattle.session_run.proofs.run.Run.give.Goals as goal

pub returns-clause-went : goal.returns-clause-went
returns-clause-went g c = λ conf line. gave_it _ _ _ _ line _ _ _ c.requires.few c.requires.piece c.give.ensures.row c.give.ensures.keeps.frames_is c.give.ensures.told refl refl refl refl
