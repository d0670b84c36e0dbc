use Rattle.std.proofs.Common.{◌≡◌, ◌==◌, drop}
use Rattle.std.specs.Prelude.{find}
use Rattle.ledger_rec.specs.declared.items.QueueItem.{QueueItem}
use Rattle.node_store.proofs.lookups.first_entry.Given as goal

abbrev pub invariant-loop-item : goal.invariant-loop-item
invariant-loop-item l = find (λ (x : QueueItem). x.number == l.number) (drop l.item-index l.queue) ≡ find (λ (x : QueueItem). x.number == l.number) l.queue
