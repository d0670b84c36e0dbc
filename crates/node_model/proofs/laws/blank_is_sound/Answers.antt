use Rattle.node_model.proofs.Lives.{blank_sound}
use Rattle.node_model.proofs.laws.blank_is_sound.Goals as goal

pub returns : goal.returns
returns c = blank_sound
