use Rattle.world_pair.proofs.CallEvents.{calls_are_events}
use Rattle.world_pair.proofs.laws.calls_are_events.Goals as goal

pub returns : goal.returns
returns c = calls_are_events
