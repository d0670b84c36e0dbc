use Rattle.std.proofs.Common.{map, take}
use Rattle.ledger_rec.specs.Items.{receipt}
use Rattle.node_store.specs.Giving.{NextLeft}
use Rattle.node_store.specs.Seeking.{is_sought}
use Rattle.node_store.proofs.round.least_left.Given as goal

abbrev pub invariant-loop-item : goal.invariant-loop-item
invariant-loop-item l = NextLeft (is_sought l.sought) l.given (map receipt (take l.item-index l.inbox)) l.after l.least
