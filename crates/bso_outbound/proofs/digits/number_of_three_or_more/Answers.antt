use Rattle.std.proofs.Common.{ℕ, ◌∷◌, List, arith, subst}
use Rattle.bso_outbound.specs.Digits.{four_digits}
use Rattle.bso_outbound.specs.Reading.{IsNumber, Reads}
use Rattle.bso_outbound.proofs.Numbers.{read_short, read_long, three_items}
use Rattle.bso_outbound.proofs.digits.number_of_three_or_more.Goals as goal

pub returns-then-digits-eq3 : goal.returns-then-digits-eq3
returns-then-digits-eq3 c =
    read_short c.args.digits.now c.number_of.result c.if-digits-eq3.true
    (subst (λ (l : List ℕ). Reads IsNumber four_digits (48 ∷ l) c.number_of.result) (three_items c.args.digits.now c.if-digits-eq3.true) c.number_of.ensures)

pub returns : goal.returns
returns c = read_long c.args.digits.now c.long_number_of.result (λ is. omega (arith, is)) c.long_number_of.ensures
