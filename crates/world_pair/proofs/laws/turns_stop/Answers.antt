use Rattle.world_pair.proofs.StopEvents.{turns_stop}
use Rattle.world_pair.proofs.laws.turns_stop.Goals as goal

pub returns : goal.returns
returns c = turns_stop
