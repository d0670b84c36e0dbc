use Rattle.std.proofs.Common.{◌≡◌, count_by, map, take}
use Rattle.ledger_rec.specs.Items.{receipt}
use Rattle.node_store.specs.Giving.{is_due}
use Rattle.node_store.specs.Opening.{counted}
use Rattle.node_store.proofs.waiting.waiting_among.Given as goal

abbrev pub invariant-loop-item : goal.invariant-loop-item
invariant-loop-item l = l.number ≡ counted (count_by (is_due l.given) (map receipt (take l.item-index l.inbox)))
