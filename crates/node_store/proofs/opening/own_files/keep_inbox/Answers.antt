use Rattle.std.proofs.Common.{⊎_elim, ℕ, List, map, [], ◌∷◌, sym, ◌∙◌, subst}
use Rattle.ledger_rec.specs.Items.{receipt}
use Rattle.node_store.specs.Keeping.{AreReceipts, IsKeptReceipt, HasBadReceipt}
use Rattle.node_store.proofs.Kept.{or_memory, more_bad_receipts, member_at, given_more, receipts_more}
use Rattle.node_store.proofs.Untouched.{untouched-then, beside-more}
use Rattle.node_store.proofs.opening.own_files.keep_inbox.Goals as goal

pub returns-in-Err-clause-bad : goal.returns-in-Err-clause-bad
returns-in-Err-clause-bad g c =
    let r = receipt c.item-item.result in
    let rs = map receipt c.args.inbox.now in
    let read = g.D.Disk.files c.keep_receipt.new.disk in
    or_memory (HasBadReceipt read (r ∷ [])) (HasBadReceipt read rs)
    (λ n. more_bad_receipts read r rs n (member_at receipt c.args.inbox.now c.loop-item.item-index c.item-item.result c.loop-item-test.true c.item-item.is)) c.in-Err.fault c.in-Err.ensures.bad

pub loop-item-preserved : goal.loop-item-preserved
loop-item-preserved g c = record {
  untouched = untouched-then g.D.Disk.files g.D.Disk.moment g.D.Disk.images c.args.disk.now c.loop-item.disk c.keep_receipt.new.disk c.loop-item.invariant.untouched c.keep_receipt.ensures.untouched;
  kept = beside-more g.D.Disk.files g.D.Disk.moment g.D.Disk.images receipt IsKeptReceipt c.args.inbox.now c.loop-item.item-index c.item-item.result c.loop-item.disk c.keep_receipt.new.disk c.loop-item-test.true c.item-item.is c.keep_receipt.ensures.untouched c.loop-item.invariant.kept c.in-Ok.ensures.kept;
  given = λ f read.
      given_more receipt c.args.inbox.now c.loop-item.item-index c.item-item.result f c.loop-item.given.items c.keep_receipt.new.given.items c.loop-item-test.true c.item-item.is (c.loop-item.invariant.given f (c.keep_receipt.ensures.untouched.read f read)) (c.in-Ok.ensures.given f read);
  receipts = ⊎_elim
      (λ same. subst (λ (ns : List ℕ). AreReceipts ns (map receipt c.args.inbox.now)) (sym same) c.loop-item.invariant.receipts)
      (λ more. subst (λ (ns : List ℕ). AreReceipts ns (map receipt c.args.inbox.now)) (sym more) (receipts_more (map receipt c.args.inbox.now) (receipt c.item-item.result) c.loop-item.given.items (member_at receipt c.args.inbox.now c.loop-item.item-index c.item-item.result c.loop-item-test.true c.item-item.is) c.loop-item.invariant.receipts))
      c.in-Ok.ensures.noted;
  calm = c.in-Ok.ensures.reason.calm ∙ c.loop-item.invariant.calm;
}
