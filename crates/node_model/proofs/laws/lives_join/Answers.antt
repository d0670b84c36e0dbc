use Rattle.node_model.proofs.Lives.{lives_join}
use Rattle.node_model.proofs.laws.lives_join.Goals as goal

pub returns : goal.returns
returns c = λ a es b fs d first second. lives_join a es b fs d first second
