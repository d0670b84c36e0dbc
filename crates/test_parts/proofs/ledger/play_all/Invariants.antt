use Rattle.disk_model.specs.Changes.{Every}
use Rattle.disk_model.specs.Moments.{Now}
use Rattle.ledger_file.specs.Ledger.{LedgerIs}
use Rattle.test_parts.proofs.ledger.play_all.Given as goal

abbrev pub invariant-loop-word : goal.invariant-loop-word
invariant-loop-word g l = Every (Now g.D.Disk.moment g.D.Disk.images l.disk) (LedgerIs l.ledger.payloads)
