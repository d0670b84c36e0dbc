use Rattle.node_store.proofs.Unrefused.{not_refused}
use Rattle.node_store.proofs.laws.no_world_that_opens_is_refused.Goals as goal

pub returns : goal.returns
returns c = not_refused
