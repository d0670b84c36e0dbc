use Rattle.ledger_rec.specs.Items.{receipt}
use Rattle.node_store.proofs.StillKept.{received_more}
use Rattle.node_store.proofs.opening.numbers.received.Goals as goal

pub loop-item-preserved : goal.loop-item-preserved
loop-item-preserved c = received_more c.note.new.self receipt c.args.inbox.now c.loop-item.item-index c.item-item.result c.loop-item-test.true c.item-item.is (c.note.ensures _ c.loop-item.invariant)
