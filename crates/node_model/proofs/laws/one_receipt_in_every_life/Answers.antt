use Rattle.node_model.proofs.Lives.{life_once}
use Rattle.node_model.proofs.laws.one_receipt_in_every_life.Goals as goal

pub returns : goal.returns
returns c = λ old es new life s. life_once old es new life s
