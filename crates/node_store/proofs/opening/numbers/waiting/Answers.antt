use Rattle.ledger_rec.specs.Items.{Entry, entry}
use Rattle.node_store.proofs.Counted.{counted_more}
use Rattle.node_store.proofs.opening.numbers.waiting.Goals as goal

pub loop-item-preserved : goal.loop-item-preserved
loop-item-preserved c =
    counted_more entry (λ (e : Entry). e.live) c.args.queue.now c.loop-item.item-index c.item-item.result c.loop-item.live c.count-live.result c.loop-item-test.true c.item-item.is c.loop-item.invariant c.count-live.ensures
