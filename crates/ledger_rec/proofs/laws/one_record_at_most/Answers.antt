use Rattle.ledger_rec.proofs.ReadBack.{one_record}
use Rattle.ledger_rec.proofs.laws.one_record_at_most.Goals as goal

pub returns : goal.returns
returns c = one_record
