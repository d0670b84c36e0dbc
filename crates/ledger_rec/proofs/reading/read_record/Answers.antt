use Rattle.ftn_addr.specs.Address.{address}
use Rattle.ledger_rec.proofs.Homes.{record_is, record_none}
use Rattle.ledger_rec.proofs.ReadBack.{read_again, read_none}
use Rattle.ledger_rec.proofs.reading.read_record.Goals as goal

pub returns-clause-again : goal.returns-clause-again
returns-clause-again c = read_again (address c.args.home.now) c.args.payload.now c.record_at.result c.record_at.ensures.gives

pub returns-clause-bad : goal.returns-clause-bad
returns-clause-bad c = read_none (address c.args.home.now) c.args.payload.now c.record_at.result c.record_at.ensures.gives

pub returns-clause-is : goal.returns-clause-is
returns-clause-is c = record_is c.args.payload.now c.record_at.result c.record_at.ensures.numbers c.record_at.ensures.spelled

pub returns-clause-none : goal.returns-clause-none
returns-clause-none c = record_none (address c.args.home.now) c.args.payload.now c.record_at.result c.record_at.ensures.gives
