use Rattle.world_pair.proofs.Complete.{nothing_left}
use Rattle.world_pair.proofs.laws.batch_ends_when_nothing_is_left.Goals as goal

pub returns : goal.returns
returns c = nothing_left
