use Rattle.std.proofs.Common.{◌≤◌, arith}
use Rattle.bso_outbound.specs.Reading.{IsNumber}
use Rattle.bso_outbound.proofs.Numbers.{none_of_these}
use Rattle.bso_outbound.proofs.digits.long_number_of.Goals as goal

pub returns-then-number-lt4096 : goal.returns-then-number-lt4096
returns-then-number-lt4096 c =
    let h = c.in_ok-number.ensures in
    none_of_these (λ n. (4096 ≤ n) × IsNumber n) c.args.digits.now c.in_ok-number.number (λ m fits. omega arith) (omega arith) h.1 (λ fits. omega arith)
