use Rattle.std.proofs.Common.{map, List, [], ◌∷◌, ◌++◌, refl, sym, ap, subst, ◌∙◌}
use Rattle.ledger_rec.proofs.Agreeing.{agrees_refused, map_more}
use Rattle.ledger_rec.specs.Fold.{is_refused, new_refusal}
use Rattle.ledger_rec.specs.Indexed.{Agrees}
use Rattle.ledger_rec.specs.Items.{Refusal, refusal, PartMark, part_mark}
use Rattle.ledger_rec.specs.Lists.{state_of}
use Rattle.ledger_rec.specs.Record.{refused}
use Rattle.ledger_rec.specs.declared.index.Index.{Index}
use Rattle.ledger_rec.proofs.changes.put_refusal.Goals as goal

pub returns-clause-agrees : goal.returns-clause-agrees
returns-clause-agrees c =
    let s = state_of c.args.lists.now in
    let x = c.args.lists.now.index in
    let y : Index = record { received = x.received; refused = c.note.new.self; queued = x.queued; numbers = x.numbers; receipts = x.receipts; parts = x.parts; takes = x.takes; greatest = x.greatest } in
    let agrees = agrees_refused x y s (refused c.args.rec) c.requires.agrees (c.note.ensures (λ from key. is_refused from key s.refused) c.requires.agrees.refused) refl refl refl refl refl refl refl in
    let refusals = sym (ap (map refusal) c.push.ensures.items ∙ sym (map_more refusal c.args.lists.now.refused.items _)) in
    subst (λ (l : List Refusal). Agrees y (record s { refused = l; marks = map part_mark c.unmark.new.marks.items })) refusals
    (subst (λ (l : List PartMark). Agrees y (record s { refused = s.refused ++ new_refusal (refused c.args.rec) ∷ []; marks = l })) (sym c.unmark.ensures.items) agrees)
