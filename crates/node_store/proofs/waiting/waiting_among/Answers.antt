use Rattle.std.proofs.Common.{◌+◌, Bool, map, ◌∙◌, ap}
use Rattle.std.specs.Prelude.{if◌then◌else◌}
use Rattle.ledger_rec.specs.Items.{receipt}
use Rattle.node_store.specs.Giving.{is_due}
use Rattle.node_store.specs.Opening.{counted}
use Rattle.node_store.proofs.Counted.{counted_more}
use Rattle.node_store.proofs.GiftCall.{receipt_there}
use Rattle.node_store.proofs.Kept.{member_at}
use Rattle.node_store.proofs.waiting.waiting_among.Goals as goal

pub loop-item-preserved : goal.loop-item-preserved
loop-item-preserved c =
    let rs = map receipt c.args.inbox.now in
    let there = receipt_there (receipt c.item-item.result) rs (member_at receipt c.args.inbox.now c.loop-item.item-index c.item-item.result c.loop-item-test.true c.item-item.is) in
    counted_more receipt (is_due c.args.given.now) c.args.inbox.now c.loop-item.item-index c.item-item.result c.loop-item.number c.count-number.result c.loop-item-test.true c.item-item.is c.loop-item.invariant
    (c.count-number.ensures ∙ ap (λ (b : Bool). if b then counted (c.loop-item.number + 1) else c.loop-item.number) (c.waits.ensures rs c.requires there))
