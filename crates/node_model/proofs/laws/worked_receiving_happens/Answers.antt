use Rattle.node_model.proofs.WorkedReceiving.{last_node, worked, worked_ends}
use Rattle.node_model.proofs.laws.worked_receiving_happens.Goals as goal

pub returns : goal.returns
returns c = (last_node, worked, worked_ends)
