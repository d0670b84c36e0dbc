use Rattle.node_store.proofs.Fitting.{given_in_world}
use Rattle.node_store.proofs.laws.giving_is_a_change.Goals as goal

pub returns : goal.returns
returns c = given_in_world
