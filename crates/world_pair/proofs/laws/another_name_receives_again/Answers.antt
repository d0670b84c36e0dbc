use Rattle.world_pair.proofs.TwoNames.{received_twice}
use Rattle.world_pair.proofs.laws.another_name_receives_again.Goals as goal

pub returns : goal.returns
returns c = received_twice
