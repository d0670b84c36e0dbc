use Rattle.std.proofs.Common.{◌≡◌, length}
use Rattle.ftn_addr.specs.Blanks.{without_back}
use Rattle.ftn_addr.proofs.blanks.without_back.Given as goal

abbrev pub invariant-loop-rest : goal.invariant-loop-rest
invariant-loop-rest l = without_back l.rest ≡ without_back l.bytes

abbrev pub decreases-loop-rest : goal.decreases-loop-rest
decreases-loop-rest l = length l.rest
