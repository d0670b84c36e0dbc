use Rattle.node_model.proofs.WorkedAnswers.{answered, worked, worked_ends}
use Rattle.node_model.proofs.laws.worked_answers_happen.Goals as goal

pub returns : goal.returns
returns c = (answered, worked, worked_ends)
