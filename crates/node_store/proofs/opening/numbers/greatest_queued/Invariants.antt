use Rattle.std.proofs.Common.{◌≡◌, map, take}
use Rattle.ledger_rec.specs.Items.{Entry, entry}
use Rattle.node_store.specs.Opening.{greatest}
use Rattle.node_store.proofs.opening.numbers.greatest_queued.Given as goal

abbrev pub invariant-loop-item : goal.invariant-loop-item
invariant-loop-item l = l.most ≡ greatest (map (λ (e : Entry). e.number) (map entry (take l.item-index l.queue)))
