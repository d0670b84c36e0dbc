use Rattle.std.proofs.Common.{inr, drop}
use Rattle.ledger_file.proofs.read.read_ledger.Goals as goal

pub returns-in-Some-clause-fault : goal.returns-in-Some-clause-fault
returns-in-Some-clause-fault c =
    inr (record { rest = drop 16 c.args.bytes.now; is = c.in-Some.ensures.header; number = c.in-Some.ensures.number; other = c.in-Some.version-test.1 })
