use Rattle.std.proofs.Common.{length, ap, ◌∙◌, arith}
use Rattle.std.proofs.lemmas.Slice.{between_to_end}
use Rattle.bso_outbound.specs.Reading.{no_slash}
use Rattle.bso_outbound.proofs.Bases.{last_no_slash, starts_above, starts_elsewhere}
use Rattle.bso_outbound.proofs.reading.file_at.Goals as goal

pub returns-then-not-starts_with : goal.returns-then-not-starts_with
returns-then-not-starts_with c =
    starts_elsewhere c.args.base.now c.args.path.now c.up_to_slash-above.result.now c.args.default c.starts_with.result c.up_to_slash-above.ensures.front c.starts_with.ensures.value c.if-not-starts_with.true

pub file_below-requires : goal.file_below-requires
file_below-requires c = ap no_slash c.last_part.ensures ∙ last_no_slash c.args.base.now

pub returns : goal.returns
returns c =
    starts_above c.args.base.now c.args.path.now c.up_to_slash-above.result.now c.last_part.result.now _ c.args.default c.starts_with.result c.file_below.result c.up_to_slash-above.ensures.front c.last_part.ensures
    (between_to_end c.args.path.now (length c.up_to_slash-above.result.now) (length c.args.path.now) (omega arith)) c.starts_with.ensures.value c.if-not-starts_with.false c.file_below.ensures
