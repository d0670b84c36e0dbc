use Rattle.ledger_rec.specs.Items.{receipt}
use Rattle.node_store.specs.Seeking.{is_sought}
use Rattle.node_store.proofs.Due.{due_more}
use Rattle.node_store.proofs.round.least_left.Goals as goal

pub loop-item-preserved : goal.loop-item-preserved
loop-item-preserved c =
    due_more (is_sought c.args.sought) receipt c.args.inbox.now c.loop-item.item-index c.item-item.result c.args.given.now c.args.after c.loop-item.least c.lesser-least.result c.loop-item-test.true c.item-item.is c.loop-item.invariant c.lesser-least.ensures
