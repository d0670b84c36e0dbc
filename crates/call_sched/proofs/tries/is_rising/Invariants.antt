use Rattle.call_sched.proofs.Searching.{RisesTo}
use Rattle.call_sched.proofs.tries.is_rising.Given as goal

abbrev pub invariant-loop-place : goal.invariant-loop-place
invariant-loop-place l = RisesTo l.tries l.place
