use Rattle.std.proofs.Common.{sym, ◌∙◌}
use Rattle.bso_outbound.specs.Names.{zone_ending}
use Rattle.bso_outbound.specs.Reading.{IsNumber}
use Rattle.bso_outbound.proofs.Readings.{other_front, with_front, whole}
use Rattle.bso_outbound.proofs.Texts.{same_word_is, other_word_is}
use Rattle.bso_outbound.proofs.zone.zone_of.Goals as goal

pub returns-then-not-is_same_word : goal.returns-then-not-is_same_word
returns-then-not-is_same_word c =
    other_front IsNumber (λ zone. zone_ending zone c.args.default) c.args.folder.now c.split_at.result.0.now c.split_at.result.1.now c.args.base.now (whole _ c.args.folder.now _ _ c.split_at.ensures.front c.split_at.ensures.back)
    c.split_at.ensures.front_len (other_word_is c.split_at.result.0.now c.args.base.now (sym c.is_same_word.ensures ∙ c.if-not-is_same_word.true))

pub returns : goal.returns
returns c =
    with_front IsNumber (λ zone. zone_ending zone c.args.default) c.args.folder.now c.split_at.result.0.now c.split_at.result.1.now c.args.base.now (whole _ c.args.folder.now _ _ c.split_at.ensures.front c.split_at.ensures.back)
    (same_word_is c.split_at.result.0.now c.args.base.now (sym c.is_same_word.ensures ∙ c.if-not-is_same_word.false)) c.zone_of_ending.result c.zone_of_ending.ensures
