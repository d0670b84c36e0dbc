use Rattle.node_model.proofs.CallsLive.{turns_live}
use Rattle.node_model.proofs.laws.calls_are_a_life.Goals as goal

pub returns : goal.returns
returns c = λ alone a es b chain. turns_live alone a es b chain
