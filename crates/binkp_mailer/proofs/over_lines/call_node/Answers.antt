use Rattle.std.proofs.Common.{refl}
use Rattle.binkp_mailer.specs.OverLines.{No_room}
use Rattle.binkp_mailer.proofs.over_lines.call_node.Goals as goal

pub returns-in-Err-clause-calls : goal.returns-in-Err-clause-calls
returns-in-Err-clause-calls g c = No_room refl refl refl refl
