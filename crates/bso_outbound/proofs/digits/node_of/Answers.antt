use Rattle.std.proofs.Common.{sym, ◌∙◌, arith}
use Rattle.bso_outbound.specs.Digits.{four_digits}
use Rattle.bso_outbound.specs.Names.{node_digits}
use Rattle.bso_outbound.specs.Reading.{IsNode, IsNumber}
use Rattle.bso_outbound.proofs.Four.{length-four}
use Rattle.bso_outbound.proofs.Numbers.{length-node}
use Rattle.bso_outbound.proofs.Readings.{in_turn, other_length, whole}
use Rattle.bso_outbound.proofs.digits.node_of.Goals as goal

pub returns-then-digits-ne8 : goal.returns-then-digits-ne8
returns-then-digits-ne8 c = other_length IsNode node_digits c.args.digits.now (λ p fits is. omega (arith, is, length-node p))

pub returns : goal.returns
returns c =
    in_turn IsNumber IsNumber four_digits four_digits c.args.digits.now c.split_at.result.0.now c.split_at.result.1.now (whole 4 c.args.digits.now _ _ c.split_at.ensures.front c.split_at.ensures.back)
    (λ n fits. c.split_at.ensures.front_len ∙ sym (length-four n)) c.number_of.result c.number_of-2.result c.zip.result c.number_of.ensures c.number_of-2.ensures c.zip.ensures
