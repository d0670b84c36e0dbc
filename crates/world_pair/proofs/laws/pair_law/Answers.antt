use Rattle.world_pair.proofs.laws.pair_law.Goals as goal
use Rattle.world_pair.proofs.Told.{pair_law-holds}

pub returns : goal.returns
returns c = pair_law-holds
