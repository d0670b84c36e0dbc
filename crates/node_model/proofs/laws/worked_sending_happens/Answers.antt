use Rattle.node_model.proofs.WorkedSending.{sent, worked, worked_ends}
use Rattle.node_model.proofs.laws.worked_sending_happens.Goals as goal

pub returns : goal.returns
returns c = (sent, worked, worked_ends)
