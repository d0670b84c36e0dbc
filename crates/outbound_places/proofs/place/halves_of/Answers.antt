use Rattle.std.proofs.Common.{sym, ◌∙◌, arith}
use Rattle.bso_outbound.specs.Names.{node_digits}
use Rattle.bso_outbound.specs.Reading.{IsNode}
use Rattle.bso_outbound.proofs.Numbers.{length-node}
use Rattle.bso_outbound.proofs.Readings.{in_turn, other_length, whole}
use Rattle.outbound_places.specs.Places.{AreHalves, digits_of_halves}
use Rattle.outbound_places.proofs.Spelled.{length-halves}
use Rattle.outbound_places.proofs.place.halves_of.Goals as goal

pub returns-then-digits-ne16 : goal.returns-then-digits-ne16
returns-then-digits-ne16 c = other_length AreHalves digits_of_halves c.args.digits.now (λ h fits is. omega (arith, is, length-halves h))

pub returns : goal.returns
returns c =
    in_turn IsNode IsNode node_digits node_digits c.args.digits.now c.split_at.result.0.now c.split_at.result.1.now (whole 8 c.args.digits.now _ _ c.split_at.ensures.front c.split_at.ensures.back)
    (λ n fits. c.split_at.ensures.front_len ∙ sym (length-node n)) c.node_of.result c.node_of-2.result c.zip.result c.node_of.ensures c.node_of-2.ensures c.zip.ensures
