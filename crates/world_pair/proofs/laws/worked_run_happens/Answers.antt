use Rattle.world_pair.proofs.WorkedRest.{went_across}
use Rattle.world_pair.proofs.laws.worked_run_happens.Goals as goal

pub returns : goal.returns
returns c = went_across
