use Rattle.world_pair.proofs.Parts.{data_goes_on}
use Rattle.world_pair.proofs.laws.data_goes_on.Goals as goal

pub returns : goal.returns
returns c = data_goes_on
