use Rattle.world_pair.proofs.Parts.{acknowledgements_stand}
use Rattle.world_pair.proofs.laws.acknowledgements_stand.Goals as goal

pub returns : goal.returns
returns c = acknowledgements_stand
