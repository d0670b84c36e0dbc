use Rattle.outbound_model.proofs.Once.{once}
use Rattle.outbound_model.proofs.laws.each_line_once.Goals as goal

pub returns : goal.returns
returns c = λ a es b new path. once a es b new path
