use Rattle.outbound_model.proofs.WorkedTake.{taken, worked, worked_ends}
use Rattle.outbound_model.proofs.laws.worked_take_happens.Goals as goal

pub returns : goal.returns
returns c = (taken, worked, worked_ends)
