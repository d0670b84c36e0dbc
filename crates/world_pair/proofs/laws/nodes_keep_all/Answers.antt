use Rattle.world_pair.proofs.NodeLives.{keeps_all}
use Rattle.world_pair.proofs.laws.nodes_keep_all.Goals as goal

pub returns : goal.returns
returns c = keeps_all
