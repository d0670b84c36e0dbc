use Rattle.std.proofs.Common.{◌/◌, ◌^◌, ap, ◌∙◌}
use Rattle.node_trial.specs.Draws.{next}
use Rattle.node_trial.proofs.Drawing.{next_is}
use Rattle.node_trial.proofs.generator.Generator.draw.Goals as goal

pub returns-clause-number : goal.returns-clause-number
returns-clause-number c = ap (λ n. n / 2 ^ 33) (next_is c.self.inside.state ∙ ap next c.self.view_is)

pub returns-clause-state : goal.returns-clause-state
returns-clause-state c = next_is c.self.inside.state ∙ ap next c.self.view_is
