use Rattle.std.proofs.Common.{List, map, ap, ◌∙◌}
use Rattle.ledger_rec.proofs.Lengthening.{longer_marks, longer_state}
use Rattle.ledger_rec.specs.Fold.{in_place, unmarked}
use Rattle.ledger_rec.specs.Items.{part_mark}
use Rattle.ledger_rec.specs.Lists.{state_of}
use Rattle.ledger_rec.specs.Record.{mark}
use Rattle.ledger_rec.specs.declared.items.MarkItem.{MarkItem}
use Rattle.ledger_rec.proofs.changes.put_longer.Goals as goal

pub returns-clause-state : goal.returns-clause-state
returns-clause-state c =
    let r = mark c.args.rec.now in
    let longer : MarkItem = record c.remove-item.result { len = r.len } in
    let left = c.unmark.ensures.items ∙ ap (λ (ms : List MarkItem). unmarked r.from r.key (map part_mark ms)) c.remove-item.ensures.items in
    let marks = c.insert.ensures.items ∙ ap (in_place (part_mark longer)) left ∙ longer_marks r c.args.lists.now.marks.items c.args.place c.remove-item.result c.requires.stands c.remove-item.ensures.value in
    longer_state r (state_of c.args.lists.now) (map part_mark c.insert.new.marks.items) marks c.requires.used
