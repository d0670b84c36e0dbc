use Rattle.std.proofs.Common.{ap, ◌∙◌, map, not, rules}
use Rattle.std.proofs.lemmas.Fn.{filter_same}
use Rattle.ftn_addr.specs.Address.{address}
use Rattle.ftn_addr.specs.Files.{is_same}
use Rattle.ftn_addr.specs.Key.{key_of}
use Rattle.ledger_rec.proofs.Changing.{unmarked_map}
use Rattle.ledger_rec.specs.Items.{part_mark}
use Rattle.ledger_rec.specs.declared.items.MarkItem.{MarkItem}
use Rattle.ledger_rec.proofs.changes.unmark.Goals as goal

pub returns-clause-items : goal.returns-clause-items
returns-clause-items c =
    ap (map part_mark) (filter_same _ (λ (m : MarkItem). not (is_same (address c.args.from.now) (key_of c.args.key.now) (address m.from) (key_of m.key))) _ (λ x b f' k. search rules) _ _ c.retain.ensures.filtered) ∙ unmarked_map (address c.args.from.now) (key_of c.args.key.now) c.args.marks.now.items
