use Rattle.world_pair.proofs.Parts.{settled_stand}
use Rattle.world_pair.proofs.laws.settled_stand.Goals as goal

pub returns : goal.returns
returns c = settled_stand
