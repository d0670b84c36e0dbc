use Rattle.std.proofs.Common.{◌≡◌, ◌≤◌, length}
use Rattle.bso_outbound.specs.Paths.{up_to_slash}
use Rattle.bso_outbound.proofs.slash.up_to_slash.Given as goal

abbrev pub invariant-loop-front : goal.invariant-loop-front
invariant-loop-front l = (up_to_slash l.front ≡ up_to_slash l.path) × (length l.front ≤ length l.path)

abbrev pub decreases-loop-front : goal.decreases-loop-front
decreases-loop-front l = length l.front
