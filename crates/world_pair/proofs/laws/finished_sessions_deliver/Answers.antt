use Rattle.world_pair.proofs.Batches.{finished_law}
use Rattle.world_pair.proofs.laws.finished_sessions_deliver.Goals as goal

pub returns : goal.returns
returns c = finished_law
