use Rattle.std.proofs.Common.{◌≡◌, length, map, List, [], ◌∷◌, ◌++◌, ℕ, refl, sym, ap, subst, ◌∙◌, rules}
use Rattle.file_index.specs.Numbered.{Numbers}
use Rattle.ledger_rec.proofs.Agreeing.{agrees_received, map_more}
use Rattle.ledger_rec.proofs.Starting.{length_twice}
use Rattle.ledger_rec.specs.Fold.{is_received, new_receipt, unmarked}
use Rattle.ledger_rec.specs.Indexed.{Agrees}
use Rattle.ledger_rec.specs.Items.{Receipt, receipt, PartMark, part_mark}
use Rattle.ledger_rec.specs.Lists.{state_of}
use Rattle.ledger_rec.specs.Record.{received}
use Rattle.ledger_rec.specs.declared.index.Index.{Index}
use Rattle.ledger_rec.proofs.changes.put_receipt.Goals as goal

pub returns-clause-agrees : goal.returns-clause-agrees
returns-clause-agrees c =
    let s = state_of c.args.lists.now in
    let x = c.args.lists.now.index in
    let y : Index = record { received = c.note.new.self; refused = x.refused; queued = x.queued; numbers = x.numbers; receipts = c.note-2.new.self; parts = c.use_number.new.index; takes = x.takes; greatest = x.greatest } in
    let len : c.len.result ≡ length c.args.lists.now.inbox.items = search rules in
    let used = subst (λ (l : List ℕ). Numbers c.use_number.new.index l) c.use_number.ensures.items c.use_number.ensures.index in
    let agrees = agrees_received x y s (received c.args.rec) c.requires.agrees
    (c.note.ensures (λ from key. is_received from key s.inbox) c.requires.agrees.received)
    (c.note-2.ensures (map (λ (r : Receipt). r.number) s.inbox) (len ∙ length_twice (λ (r : Receipt). r.number) receipt c.args.lists.now.inbox.items) c.requires.agrees.receipts)
    used refl refl refl refl refl in
    let inbox = sym (ap (map receipt) c.push.ensures.items ∙ sym (map_more receipt c.args.lists.now.inbox.items _)) in
    let r = received c.args.rec in
    let numbers = c.use_number.new.numbers.items in
    let more = s.inbox ++ new_receipt r ∷ [] in
    subst (λ (l : List Receipt). Agrees y (record s { inbox = l; marks = map part_mark c.unmark.new.marks.items; parts = numbers })) inbox
    (subst (λ (l : List PartMark). Agrees y (record s { inbox = more; marks = l; parts = numbers })) (sym c.unmark.ensures.items)
    (subst (λ (l : List ℕ). Agrees y (record s { inbox = more; marks = unmarked r.from r.key s.marks; parts = l })) (sym c.use_number.ensures.items) agrees))
