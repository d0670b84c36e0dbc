use Rattle.std.proofs.Common.{◌≡◌, length}
use Rattle.binkp_link.specs.Scripts.{past_not_yet}
use Rattle.binkp_link.proofs.read_script.ReadScript.pass_not_yet.Given as goal

abbrev pub invariant-loop-self : goal.invariant-loop-self
invariant-loop-self l = (past_not_yet l.self.left ≡ past_not_yet l.initial.self.left) × (l.self.taken ≡ l.initial.self.taken)

abbrev pub decreases-loop-self : goal.decreases-loop-self
decreases-loop-self l = length l.self.left
