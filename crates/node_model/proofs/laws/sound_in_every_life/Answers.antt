use Rattle.node_model.proofs.Lives.{life_sound}
use Rattle.node_model.proofs.laws.sound_in_every_life.Goals as goal

pub returns : goal.returns
returns c = λ old es new life s. life_sound old es new life s
