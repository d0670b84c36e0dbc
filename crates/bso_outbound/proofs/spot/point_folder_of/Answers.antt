use Rattle.std.proofs.Common.{sym, ◌∙◌, arith, codes}
use Rattle.bso_outbound.specs.Names.{node_digits, point_folder}
use Rattle.bso_outbound.specs.Reading.{IsNode}
use Rattle.bso_outbound.proofs.Numbers.{length-node}
use Rattle.bso_outbound.proofs.Readings.{other_length, other_end, with_end, whole}
use Rattle.bso_outbound.proofs.SpotNames.{length-folder}
use Rattle.bso_outbound.proofs.Texts.{same_word_is, other_word_is}
use Rattle.bso_outbound.proofs.spot.point_folder_of.Goals as goal

pub returns-then-name-ne12 : goal.returns-then-name-ne12
returns-then-name-ne12 c = other_length IsNode point_folder c.args.name.now (λ p fits is. omega (arith, is, length-folder p))

pub returns-then-not-is_same_word : goal.returns-then-not-is_same_word
returns-then-not-is_same_word c =
    other_end IsNode node_digits c.args.name.now c.split_at.result.0.now c.split_at.result.1.now (codes ".pnt") (whole 8 c.args.name.now _ _ c.split_at.ensures.front c.split_at.ensures.back)
    (λ p fits. c.split_at.ensures.front_len ∙ sym (length-node p)) (other_word_is c.split_at.result.1.now (codes ".pnt") (sym c.is_same_word.ensures ∙ c.if-not-is_same_word.true))

pub returns : goal.returns
returns c =
    with_end IsNode node_digits c.args.name.now c.split_at.result.0.now c.split_at.result.1.now (codes ".pnt") (whole 8 c.args.name.now _ _ c.split_at.ensures.front c.split_at.ensures.back)
    (λ p fits. c.split_at.ensures.front_len ∙ sym (length-node p)) (same_word_is c.split_at.result.1.now (codes ".pnt") (sym c.is_same_word.ensures ∙ c.if-not-is_same_word.false)) c.node_of.result c.node_of.ensures
