use Rattle.session_run.proofs.Marked.{leaves_marked}
use Rattle.session_run.proofs.leaving.leaving_marks_what_came.Goals as goal

pub returns : goal.returns
returns c = λ seat old new sound step. leaves_marked seat old new sound step
