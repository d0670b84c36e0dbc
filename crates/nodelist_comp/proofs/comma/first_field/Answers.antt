use Rattle.std.proofs.Common.{◌+◌, length, sym, ◌∙◌, arith}
use Rattle.std.proofs.lemmas.Slice.{between_to_end}
use Rattle.nodelist_comp.proofs.FirstField.{last_field, field_at}
use Rattle.nodelist_comp.proofs.comma.first_field.Goals as goal

pub returns-in-Some-clause-fields : goal.returns-in-Some-clause-fields
returns-in-Some-clause-fields c =
    let line = c.args.line.now in
    let first = field_at line c.in-Some.end (sym c.first_comma.ensures ∙ c.in-Some.is) in
    rw (between_to_end line (c.in-Some.end + 1) (length line) (omega arith)) first

pub returns-in-None-clause-fields : goal.returns-in-None-clause-fields
returns-in-None-clause-fields c = last_field c.args.line.now (sym c.first_comma.ensures ∙ c.in-None.is)
