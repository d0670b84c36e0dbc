use Rattle.world_pair.proofs.NodeLives.{has_lived}
use Rattle.world_pair.proofs.laws.nodes_live.Goals as goal

pub returns : goal.returns
returns c = has_lived
