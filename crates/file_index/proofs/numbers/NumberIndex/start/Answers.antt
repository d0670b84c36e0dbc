use Rattle.std.proofs.Common.{◌∙◌, sym, ap, arith}
use Rattle.std.specs.Prelude.{is_some}
use Rattle.file_index.proofs.Places.{first-any, first-before, none-before}
use Rattle.file_index.proofs.numbers.NumberIndex.start.Goals as goal

pub returns-in-Some-clause-none : goal.returns-in-Some-clause-none
returns-in-Some-clause-none c = λ numbers len has.
    first-before c.args.number numbers c.in-Some.place.now c.min.result (sym (has c.if-not-self.false c.args.number) ∙ sym c.in-Some.ensures.value) (let least = c.min.ensures in omega (arith, least))

pub returns-in-None-clause-none : goal.returns-in-None-clause-none
returns-in-None-clause-none c = λ numbers len has.
    none-before c.args.number numbers c.args.len (sym (first-any c.args.number numbers) ∙ ap is_some (sym (has c.if-not-self.false c.args.number) ∙ sym c.in-None.ensures.value))
