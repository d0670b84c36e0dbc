use Rattle.std.proofs.Common.{◌≡◌, length, map, sym, ap, ◌∙◌, rules}
use Rattle.std.specs.Prelude.{position, unwrap_or}
use Rattle.std.specs.List.{insert}
use Rattle.ledger_rec.proofs.Changing.{later, placed}
use Rattle.ledger_rec.specs.Items.{part_mark}
use Rattle.ledger_rec.proofs.changes.insert.Goals as goal

pub returns-clause-items : goal.returns-clause-items
returns-clause-items c =
    let marks = c.args.marks.now.items in
    let place = c.unwrap_or-place.result in
    let there : place ≡ unwrap_or (position (later c.args.item.part) marks) (length marks) = search rules in
    let items : c.insert.new.self.items ≡ insert marks place c.args.item = rw c.in-Ok.is at c.insert.ensures.items in
    ap (map part_mark) items ∙ sym (placed c.args.item place marks there)
