use Rattle.world_pair.proofs.laws.one_receipt_law.Goals as goal
use Rattle.world_pair.proofs.Told.{one_receipt_law-holds}

pub returns : goal.returns
returns c = one_receipt_law-holds
