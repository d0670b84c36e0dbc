use Rattle.world_pair.proofs.NodeLives.{stays_sound}
use Rattle.world_pair.proofs.laws.nodes_stay_sound.Goals as goal

pub returns : goal.returns
returns c = stays_sound
