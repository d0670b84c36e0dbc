use Rattle.world_pair.proofs.CallEvents.{openings_are_events}
use Rattle.world_pair.proofs.laws.openings_are_events.Goals as goal

pub returns : goal.returns
returns c = openings_are_events
