use Rattle.std.proofs.Common.{[], ◌∷◌, ◌++◌, List, map, sym, ◌∙◌, ap}
use Rattle.std.proofs.lemmas.List.{append-nil, map-append}
use Rattle.ledger_rec.specs.Items.{entry}
use Rattle.mail_conf.specs.ConfView.{conf_text}
use Rattle.binkp_serve.specs.Calling.{Waits, waits}
use Rattle.binkp_serve.proofs.Items.{item_passed, item_waits}
use Rattle.binkp_serve.proofs.calling.push_waiting.Goals as goal

pub returns-then-not-item : goal.returns-then-not-item
returns-then-not-item c = λ k.
    sym (append-nil (map waits c.args.items.now.items))
    ∙ ap (λ (l : List Waits). map waits c.args.items.now.items ++ l) (sym (item_passed (conf_text c.args.conf.now) c.args.index.now k (entry c.args.item.now) c.if-not-item.true))

pub returns : goal.returns
returns c = λ k.
    ap (map waits) c.in_ok-push.ensures.items
    ∙ (map-append waits c.args.items.now.items (c.in_ok-wanted.wanted ∷ [])
    ∙ ap (λ (l : List Waits). map waits c.args.items.now.items ++ l)
    (ap (λ (w : Waits). w ∷ []) (c.in_ok-wanted.ensures k) ∙ sym (item_waits (conf_text c.args.conf.now) c.args.index.now k (entry c.args.item.now) c.if-not-item.false)))
