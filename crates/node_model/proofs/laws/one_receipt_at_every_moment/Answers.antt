use Rattle.node_model.proofs.Lives.{life_past_once}
use Rattle.node_model.proofs.laws.one_receipt_at_every_moment.Goals as goal

pub returns : goal.returns
returns c = λ old es new life d past s. life_past_once old es new life d past s
