use Rattle.std.proofs.Common.{◌∙◌, ap, length, arith}
use Rattle.binkp_link.proofs.Plays.{bytes_at, place_more, place_none}
use Rattle.binkp_link.proofs.read_script.place_after.Goals as goal

pub returns-then-n-saturating_sub : goal.returns-then-n-saturating_sub
returns-then-n-saturating_sub c =
    let at = c.bytes-len.ensures ∙ bytes_at c.args.acts.now c.args.over _ c.in_ok-get.ensures.lookup.3.0 c.in_ok-get.ensures.lookup.1 in
    place_more _ _ _ (omega (arith, c.if-n-saturating_sub.true, c.saturating_sub.ensures, ap length at))

pub returns-else-n-saturating_sub : goal.returns-else-n-saturating_sub
returns-else-n-saturating_sub c =
    let at = c.bytes-len.ensures ∙ bytes_at c.args.acts.now c.args.over _ c.in_ok-get.ensures.lookup.3.0 c.in_ok-get.ensures.lookup.1 in
    place_none _ _ _ (omega (arith, c.if-n-saturating_sub.false, c.saturating_sub.ensures, ap length at))
