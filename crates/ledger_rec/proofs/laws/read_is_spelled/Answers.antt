use Rattle.ledger_rec.proofs.Spelled.{read_spells}
use Rattle.ledger_rec.proofs.laws.read_is_spelled.Goals as goal

pub returns : goal.returns
returns c = read_spells
