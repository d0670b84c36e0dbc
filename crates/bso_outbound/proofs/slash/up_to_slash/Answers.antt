use Rattle.std.proofs.Common.{◌-◌, length, sym, ◌∙◌, arith, length-take}
use Rattle.bso_outbound.proofs.Bases.{ends_empty, ends_there, step_back}
use Rattle.bso_outbound.proofs.slash.up_to_slash.Goals as goal

pub loop-front-preserved : goal.loop-front-preserved
loop-front-preserved c = (
  step_back c.loop-front.front.now c.in-len1-up.len_at_least c.if-last-eq47.false ∙ c.loop-front.invariant.0,
  omega (arith, length-take (length c.loop-front.front.now - 1) c.loop-front.front.now, c.loop-front.invariant.1),
)

pub returns-then-last-eq47-clause-front : goal.returns-then-last-eq47-clause-front
returns-then-last-eq47-clause-front c = sym (ends_there c.loop-front.front.now c.in-len1-up.len_at_least c.if-last-eq47.true) ∙ c.loop-front.invariant.0

pub returns-in_default-clause-front : goal.returns-in_default-clause-front
returns-in_default-clause-front c = sym (ends_empty c.loop-front.front.now (omega arith)) ∙ c.loop-front.invariant.0
