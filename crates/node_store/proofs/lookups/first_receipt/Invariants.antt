use Rattle.std.proofs.Common.{◌≡◌, ◌==◌, drop}
use Rattle.std.specs.Prelude.{find}
use Rattle.ledger_rec.specs.declared.items.InboxItem.{InboxItem}
use Rattle.node_store.proofs.lookups.first_receipt.Given as goal

abbrev pub invariant-loop-item : goal.invariant-loop-item
invariant-loop-item l = find (λ (x : InboxItem). x.receipt == l.number) (drop l.item-index l.inbox) ≡ find (λ (x : InboxItem). x.receipt == l.number) l.inbox
