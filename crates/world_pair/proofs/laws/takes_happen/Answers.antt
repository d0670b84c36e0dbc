use Rattle.world_pair.proofs.FromDesk.{takes_happen}
use Rattle.world_pair.proofs.laws.takes_happen.Goals as goal

pub returns : goal.returns
returns c = takes_happen
