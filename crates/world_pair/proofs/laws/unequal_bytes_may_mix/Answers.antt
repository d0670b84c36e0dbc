use Rattle.world_pair.proofs.MixedRun.{receives_mixed}
use Rattle.world_pair.proofs.laws.unequal_bytes_may_mix.Goals as goal

pub returns : goal.returns
returns c = receives_mixed
