use Rattle.world_pair.proofs.CrossingRest.{crossed_once}
use Rattle.world_pair.proofs.laws.crossing_run_happens.Goals as goal

pub returns : goal.returns
returns c = crossed_once
