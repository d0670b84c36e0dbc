use Rattle.world_pair.proofs.CallEvents.{leaves_are_events}
use Rattle.world_pair.proofs.laws.leaves_are_events.Goals as goal

pub returns : goal.returns
returns c = leaves_are_events
