use Rattle.ledger_file.proofs.ReadingLaw.{one_reading}
use Rattle.ledger_file.proofs.law.one_reading.Goals as goal

pub returns : goal.returns
returns c = one_reading
