use Rattle.node_model.proofs.Lives.{life_past_stays}
use Rattle.node_model.proofs.laws.settled_stays_at_every_moment.Goals as goal

pub returns : goal.returns
returns c = λ old es new life d past. life_past_stays old es new life d past
