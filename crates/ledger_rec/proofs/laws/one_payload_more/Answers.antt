use Rattle.ledger_rec.proofs.FoldMore.{fold_more}
use Rattle.ledger_rec.proofs.laws.one_payload_more.Goals as goal

pub returns : goal.returns
returns c = fold_more
