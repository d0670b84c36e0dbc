use Rattle.world_pair.proofs.StopEvents.{takes_stop}
use Rattle.world_pair.proofs.laws.takes_stop.Goals as goal

pub returns : goal.returns
returns c = takes_stop
