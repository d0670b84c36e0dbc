use Rattle.std.proofs.Common.{◌≡◌, false}
use Rattle.binkp_link.specs.MemLines.{mem_state}
use Rattle.test_core.proofs.lines.play.Given as goal

abbrev pub invariant-loop-word : goal.invariant-loop-word
invariant-loop-word l = (mem_state l.line).closed ≡ false
