use Rattle.std.proofs.Common.{map, take}
use Rattle.file_index.specs.Sets.{Kept}
use Rattle.ledger_rec.specs.Items.{receipt}
use Rattle.node_store.specs.Stored.{has_receipt}
use Rattle.node_store.proofs.opening.numbers.received.Given as goal

abbrev pub invariant-loop-item : goal.invariant-loop-item
invariant-loop-item l = Kept l.numbers (λ n. has_receipt n (map receipt (take l.item-index l.inbox)))
