use Rattle.world_pair.proofs.FromDesk.{turns_happen}
use Rattle.world_pair.proofs.laws.turns_happen.Goals as goal

pub returns : goal.returns
returns c = turns_happen
