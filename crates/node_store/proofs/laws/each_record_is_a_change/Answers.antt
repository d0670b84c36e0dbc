use Rattle.node_store.proofs.Numbered.{step_in_world}
use Rattle.node_store.proofs.laws.each_record_is_a_change.Goals as goal

pub returns : goal.returns
returns c = step_in_world
