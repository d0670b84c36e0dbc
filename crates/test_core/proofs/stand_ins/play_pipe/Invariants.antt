use Rattle.std.proofs.Common.{◌≡◌, false}
use Rattle.test_core.proofs.stand_ins.play_pipe.Given as goal

abbrev pub invariant-loop-word : goal.invariant-loop-word
invariant-loop-word l = (l.near.line.closed ≡ false) × (l.far.line.closed ≡ false)
