use Rattle.ledger_rec.proofs.FoldSpelled.{fold_spelled}
use Rattle.ledger_rec.proofs.laws.more_records_fold_on.Goals as goal

pub returns : goal.returns
returns c = fold_spelled
