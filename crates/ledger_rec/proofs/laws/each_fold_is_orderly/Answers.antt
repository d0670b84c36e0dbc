use Rattle.ledger_rec.proofs.OrderFold.{order_fold}
use Rattle.ledger_rec.proofs.laws.each_fold_is_orderly.Goals as goal

pub returns : goal.returns
returns c = order_fold
