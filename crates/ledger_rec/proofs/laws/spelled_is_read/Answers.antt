use Rattle.ledger_rec.proofs.ReadBack.{record_of_payload}
use Rattle.ledger_rec.specs.Payloads.{nowhere}
use Rattle.ledger_rec.proofs.laws.spelled_is_read.Goals as goal

pub returns : goal.returns
returns c = λ payload r numbers spells. record_of_payload nowhere payload r numbers spells
