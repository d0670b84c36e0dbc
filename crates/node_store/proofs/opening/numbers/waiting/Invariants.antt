use Rattle.std.proofs.Common.{◌≡◌, count_by, map, take}
use Rattle.ledger_rec.specs.Items.{Entry, entry}
use Rattle.node_store.specs.Opening.{counted}
use Rattle.node_store.proofs.opening.numbers.waiting.Given as goal

abbrev pub invariant-loop-item : goal.invariant-loop-item
invariant-loop-item l = l.live ≡ counted (count_by (λ (e : Entry). e.live) (map entry (take l.item-index l.queue)))
