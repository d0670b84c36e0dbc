use Rattle.world_pair.proofs.Parts.{parts_are_fronts}
use Rattle.world_pair.proofs.laws.parts_are_fronts.Goals as goal

pub returns : goal.returns
returns c = parts_are_fronts
