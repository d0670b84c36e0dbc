use Rattle.std.proofs.Common.{take}
use Rattle.call_sched.specs.NextCall.{IsNext}
use Rattle.call_sched.proofs.following.next_call.Given as goal

abbrev pub invariant-loop-place : goal.invariant-loop-place
invariant-loop-place l = IsNext l.now (take l.place l.wanted) l.tries.list.now l.next
