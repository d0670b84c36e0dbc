use Rattle.std.proofs.Common.{◌≡◌, List, map, subst, sym, ap, refl, ◌∙◌, rules}
use Rattle.std.specs.Vec.{with_items}
use Rattle.std.proofs.lemmas.List.{with_items_is}
use Rattle.ledger_rec.proofs.Agreeing.{agrees_names, agrees_filed, names_stay, filed_stay}
use Rattle.ledger_rec.proofs.Folding.{numbered_step, done_step}
use Rattle.ledger_rec.specs.Fold.{after, changed, fold_step, is_live, settled, waits_for_action, acted_on, waits_for_answer, answered}
use Rattle.ledger_rec.specs.Indexed.{Agrees}
use Rattle.ledger_rec.specs.Items.{entry, receipt}
use Rattle.ledger_rec.specs.Lists.{state_of, Steps}
use Rattle.ledger_rec.specs.Record.{record_of}
use Rattle.ledger_rec.specs.declared.items.InboxItem.{InboxItem}
use Rattle.ledger_rec.specs.declared.items.QueueItem.{QueueItem}
use Rattle.ledger_rec.proofs.steps.add.Goals as goal

pub returns-in-Done-clause-step : goal.returns-in-Done-clause-step
returns-in-Done-clause-step c =
    let old = state_of c.args.lists.now in
    let queue = map entry c.settle.new.queue in
    let goes = subst (λ (q : List QueueItem). Steps c.settle.result (changed (is_live c.in-Done.number) settled (map entry q)) (map entry q) queue) c.as_mut_slice.ensures.value c.settle.ensures.step in
    let step = numbered_step old (record_of c.args.rec) (search rules) ∙ ap (λ rec. after old (record_of rec)) c.in-Done.is in
    let kept : (with_items c.args.lists.now.queue c.settle.new.queue).items ≡ c.settle.new.queue = with_items_is c.args.lists.now.queue c.settle.new.queue (c.settle.auto.queue ∙ c.as_mut_slice.ensures.len) in
    subst (λ (q : List QueueItem). Steps c.settle.result (fold_step old (record_of c.args.rec)) old (record old { queue = map entry q })) (sym kept)
    (subst (λ step. Steps c.settle.result step old (record old { queue = queue })) (sym step) (done_step c.settle.result c.in-Done.number c.in-Done.field-1 old queue goes))

pub returns-in-Done-clause-agrees : goal.returns-in-Done-clause-agrees
returns-in-Done-clause-agrees c =
    let old = state_of c.args.lists.now in
    let goes = subst (λ (q : List QueueItem). Steps c.settle.result (changed (is_live c.in-Done.number) settled (map entry q)) (map entry q) (map entry c.settle.new.queue)) c.as_mut_slice.ensures.value c.settle.ensures.step in
    let same = names_stay c.settle.result (is_live c.in-Done.number) settled (λ e. refl) old.queue (map entry c.settle.new.queue) goes in
    let kept : (with_items c.args.lists.now.queue c.settle.new.queue).items ≡ c.settle.new.queue = with_items_is c.args.lists.now.queue c.settle.new.queue (c.settle.auto.queue ∙ c.as_mut_slice.ensures.len) in
    subst (λ (q : List QueueItem). Agrees c.args.lists.now.index (record old { queue = map entry q })) (sym kept) (agrees_names c.args.lists.now.index old (map entry c.settle.new.queue) same c.requires.agrees)

pub returns-in-Acted-clause-agrees : goal.returns-in-Acted-clause-agrees
returns-in-Acted-clause-agrees c =
    let old = state_of c.args.lists.now in
    let goes = subst (λ (q : List QueueItem). Steps c.act.result (changed (waits_for_action c.in-Acted.number) acted_on (map entry q)) (map entry q) (map entry c.act.new.queue)) c.as_mut_slice-in-Acted.ensures.value c.act.ensures.step in
    let same = names_stay c.act.result (waits_for_action c.in-Acted.number) acted_on (λ e. refl) old.queue (map entry c.act.new.queue) goes in
    let kept : (with_items c.args.lists.now.queue c.act.new.queue).items ≡ c.act.new.queue = with_items_is c.args.lists.now.queue c.act.new.queue (c.act.auto.queue ∙ c.as_mut_slice-in-Acted.ensures.len) in
    subst (λ (q : List QueueItem). Agrees c.args.lists.now.index (record old { queue = map entry q })) (sym kept) (agrees_names c.args.lists.now.index old (map entry c.act.new.queue) same c.requires.agrees)

pub returns-in-Answered-clause-agrees : goal.returns-in-Answered-clause-agrees
returns-in-Answered-clause-agrees c =
    let old = state_of c.args.lists.now in
    let goes = subst (λ (q : List InboxItem). Steps c.answer.result (changed (waits_for_answer c.in-Answered.receipt) answered (map receipt q)) (map receipt q) (map receipt c.answer.new.inbox)) c.as_mut_slice-in-Answered.ensures.value c.answer.ensures.step in
    let same = filed_stay c.answer.result (waits_for_answer c.in-Answered.receipt) answered (λ e. refl) old.inbox (map receipt c.answer.new.inbox) goes in
    let kept : (with_items c.args.lists.now.inbox c.answer.new.inbox).items ≡ c.answer.new.inbox = with_items_is c.args.lists.now.inbox c.answer.new.inbox (c.answer.auto.inbox ∙ c.as_mut_slice-in-Answered.ensures.len) in
    subst (λ (q : List InboxItem). Agrees c.args.lists.now.index (record old { inbox = map receipt q })) (sym kept) (agrees_filed c.args.lists.now.index old (map receipt c.answer.new.inbox) same c.requires.agrees)
