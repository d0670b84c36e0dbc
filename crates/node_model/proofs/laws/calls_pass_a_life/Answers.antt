use Rattle.node_model.proofs.CallsLive.{turns_past}
use Rattle.node_model.proofs.laws.calls_pass_a_life.Goals as goal

pub returns : goal.returns
returns c = λ alone a es b chain from ts k d past. turns_past alone a es b chain from ts k d past
