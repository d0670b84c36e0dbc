use Rattle.binkp_serve.proofs.GiveSteps.{gives_are_steps}
use Rattle.binkp_mailer.proofs.node_laws.gives_are_steps.Goals as goal

pub returns : goal.returns
returns c = gives_are_steps
