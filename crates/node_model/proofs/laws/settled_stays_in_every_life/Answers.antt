use Rattle.node_model.proofs.Lives.{life_stays}
use Rattle.node_model.proofs.laws.settled_stays_in_every_life.Goals as goal

pub returns : goal.returns
returns c = λ old es new life. life_stays old es new life
