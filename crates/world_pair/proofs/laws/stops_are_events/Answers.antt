use Rattle.world_pair.proofs.StopEvents.{stops_are_events}
use Rattle.world_pair.proofs.laws.stops_are_events.Goals as goal

pub returns : goal.returns
returns c = stops_are_events
