use Rattle.std.proofs.Common.{subst}
use Rattle.ledger_rec.specs.Limits.{HasNumbers}
use Rattle.ledger_rec.specs.Record.{NewFileText, Queue}
use Rattle.node_store.proofs.planning.write_queued.Goals as goal

pub returns-clause-numbers : goal.returns-clause-numbers
returns-clause-numbers c = subst (λ (r : NewFileText). HasNumbers (Queue r)) c.in_ok-record_for.ensures c.in_ok-write_payload.ensures.numbers
