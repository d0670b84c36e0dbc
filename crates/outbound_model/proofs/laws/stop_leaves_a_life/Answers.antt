use Rattle.outbound_model.proofs.Once.{stops}
use Rattle.outbound_model.proofs.laws.stop_leaves_a_life.Goals as goal

pub returns : goal.returns
returns c = λ a es d along. stops a es d along
