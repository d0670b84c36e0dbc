use Rattle.std.proofs.Common.{◌++◌, [], ◌∷◌, List, map, take, sym, ◌∙◌, ap}
use Rattle.ledger_rec.specs.Items.{entry}
use Rattle.mail_conf.specs.ConfView.{conf_text}
use Rattle.node_store.specs.Contents.{entry_by}
use Rattle.binkp_serve.specs.Calling.{Waits, items_of}
use Rattle.binkp_serve.proofs.Items.{item_more, items_in, taken_more}
use Rattle.binkp_serve.proofs.calling.items_in.Goals as goal

pub loop-item-preserved : goal.loop-item-preserved
loop-item-preserved c = λ k.
    let i = c.loop-item.item-index in
    let x = c.item-item.result in
    let conf = conf_text c.args.conf.now in
    let index = c.args.index.now in
    let front = map entry (take i c.args.queue.now) in
    c.in_ok-push_waiting.ensures k
    ∙ (ap (λ (l : List Waits). l ++ items_of conf index (entry_by k (entry x) ∷ [])) (c.loop-item.invariant k)
    ∙ (sym (item_more conf index k front (entry x))
    ∙ ap (items_in conf index k) (sym (taken_more c.args.queue.now i x c.loop-item-test.true c.item-item.is))))
