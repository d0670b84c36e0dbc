use Rattle.binkp_mailer.proofs.OneNode.{sessions_are_courses}
use Rattle.binkp_mailer.proofs.node_laws.one_node.Goals as goal

pub returns : goal.returns
returns c = sessions_are_courses
