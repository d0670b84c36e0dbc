use Rattle.std.proofs.Common.{refl, sym, ◌∙◌, ap, Some}
use Rattle.std.specs.Prelude.{position}
use Rattle.ledger_rec.proofs.Lengthening.{stands_for, stands_there, stands_nowhere, part_used, mark_folds, mark_breaks}
use Rattle.ledger_rec.specs.Fold.{State}
use Rattle.ledger_rec.specs.Lists.{state_of}
use Rattle.ledger_rec.specs.Record.{mark}
use Rattle.ledger_rec.proofs.lengthen.put.Goals as goal

pub returns-in_default-clause-step : goal.returns-in_default-clause-step
returns-in_default-clause-step c = (stands_nowhere (mark c.args.rec.now) c.args.lists.now.marks.items (sym (c.in_default.ensures ∙ ap (position (stands_for (mark c.args.rec.now))) c.as_slice.ensures.value)), refl)

pub returns-then-not-is_step-clause-step : goal.returns-then-not-is_step-clause-step
returns-then-not-is_step-clause-step c =
    let r = mark c.args.rec.now in
    (stands_there r c.args.lists.now.marks.items c.in-Some.place (sym (c.in-Some.ensures ∙ ap (position (stands_for r)) c.as_slice.ensures.value)), mark_breaks r (state_of c.args.lists.now) (sym c.if-not-is_step.ensures), refl)

pub put_longer-requires-clause-used : goal.put_longer-requires-clause-used
put_longer-requires-clause-used c =
    let r = mark c.args.rec.now in
    let s = state_of c.args.lists.now in
    part_used r s.parts s.marks (stands_there r c.args.lists.now.marks.items c.in-Some.place (sym (c.in-Some.ensures ∙ ap (position (stands_for r)) c.as_slice.ensures.value))) c.requires.orderly.marks

pub returns-clause-step : goal.returns-clause-step
returns-clause-step c =
    let r = mark c.args.rec.now in
    (stands_there r c.args.lists.now.marks.items c.in-Some.place (sym (c.in-Some.ensures ∙ ap (position (stands_for r)) c.as_slice.ensures.value)), mark_folds r (state_of c.args.lists.now) (sym c.if-not-is_step.ensures) ∙ ap (λ (t : State). Some t) (sym c.put_longer.ensures.state))
