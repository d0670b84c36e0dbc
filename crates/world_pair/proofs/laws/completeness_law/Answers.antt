use Rattle.world_pair.proofs.Complete.{completeness}
use Rattle.world_pair.proofs.laws.completeness_law.Goals as goal

pub returns : goal.returns
returns c = completeness
