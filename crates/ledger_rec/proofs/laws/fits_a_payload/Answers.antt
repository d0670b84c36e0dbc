use Rattle.ledger_rec.proofs.Lengths.{spelling_some, spelling_short}
use Rattle.ledger_rec.proofs.laws.fits_a_payload.Goals as goal

pub returns-clause-some : goal.returns-clause-some
returns-clause-some c = spelling_some

pub returns-clause-short : goal.returns-clause-short
returns-clause-short c = spelling_short
