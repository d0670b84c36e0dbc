use Rattle.std.proofs.Common.{◌∙◌, sym}
use Rattle.outbound_take.proofs.EndLemmas.{above_limit, done_none, done_over}
use Rattle.outbound_take.proofs.moving.can_take.Goals as goal

pub returns-in-Ok-Some-clause-done : goal.returns-in-Ok-Some-clause-done
returns-in-Ok-Some-clause-done g c = λ no s tells. done_over c.args.kind _ _ (sym c.in-Ok-Some.field-0-is ∙ c.in-Ok-Some.ensures.told s tells) (above_limit _ _ _ no c.limit_of.ensures)

pub returns-in-Ok-None-clause-done : goal.returns-in-Ok-None-clause-done
returns-in-Ok-None-clause-done g c = λ no s tells. done_none c.args.kind _ (sym c.in-Ok-None.field-0-is ∙ c.in-Ok-None.ensures.told s tells)
