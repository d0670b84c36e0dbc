use Rattle.std.proofs.Common.{arith}
use Rattle.bso_outbound.specs.Reading.{IsNumber}
use Rattle.bso_outbound.proofs.Numbers.{none_of_these}
use Rattle.bso_outbound.proofs.digits.number_of.Goals as goal

pub returns-then-number-gt-MAX_ADDRESS_NUMBER : goal.returns-then-number-gt-MAX_ADDRESS_NUMBER
returns-then-number-gt-MAX_ADDRESS_NUMBER c =
    let h = c.in_ok-number.ensures in
    none_of_these IsNumber c.args.digits.now c.in_ok-number.number (λ m fits. omega arith) h.0 h.1 (λ fits. omega arith)
