-- A standing mark that is made longer (own).
use Rattle.std.specs.Prelude.{◌≡◌, Bool, true, false, Some, None}
use Rattle.ledger_rec.specs.Fold.{State, is_part_of, fold_step}
use Rattle.ledger_rec.specs.Record.{MarkText, Mark}
use Rattle.ledger_rec.specs.declared.lengthen.Lengthened.{Lengthened}
use Rattle.ledger_rec.specs.declared.lengthen.Lengthened.TheVariants.{Longer, NoMark, BadFold}

-- whether the record's part is marked for its sender and key
abbrev pub stands : MarkText → State → Bool
stands r s = is_part_of r.part r.from r.key s.marks

-- a step of the fold where such a mark stands; else, and where the record breaks a rule, nothing changes
abbrev pub Lengthens : Lengthened → MarkText → State → State → Type 0
Lengthens Longer r old new = (stands r old ≡ true) × (fold_step old (Mark r) ≡ Some new)
Lengthens NoMark r old new = (stands r old ≡ false) × (new ≡ old)
Lengthens BadFold r old new = (stands r old ≡ true) × (fold_step old (Mark r) ≡ None) × (new ≡ old)
