use Rattle.world_pair.proofs.Parts.{events_keep}
use Rattle.world_pair.proofs.laws.events_keep.Goals as goal

pub returns : goal.returns
returns c = events_keep
