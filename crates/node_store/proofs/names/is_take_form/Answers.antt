use Rattle.std.proofs.Common.{arith, length, sym, ◌∙◌}
use Rattle.std.proofs.lemmas.Bool.{eq-eqb}
use Rattle.node_store.proofs.NumberNames.{last_of_five}
use Rattle.node_store.proofs.names.is_take_form.Goals as goal

pub returns : goal.returns
returns c =
    c.is_ending.ensures
    ∙ last_of_five _ _ _ _ _ (eq-eqb (length c.args.name.now) 30 (omega arith)) (sym c.is_one.ensures ∙ c.if-not-is_one.false) (sym c.is_one-2.ensures ∙ c.if-not-is_one-2.false) (sym c.are_digits.ensures ∙ c.if-not-are_digits.false)
