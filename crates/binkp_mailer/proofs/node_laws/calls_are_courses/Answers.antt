use Rattle.binkp_mailer.proofs.NodeOpenings.{calls_are_courses}
use Rattle.binkp_mailer.proofs.node_laws.calls_are_courses.Goals as goal

pub returns : goal.returns
returns c = calls_are_courses
