use Rattle.std.proofs.Common.{◌≡◌, drop}
use Rattle.ftn_addr.specs.Address.{address}
use Rattle.call_sched.specs.Tries.{last_try}
use Rattle.call_sched.proofs.LastTry.{later}
use Rattle.call_sched.proofs.tries.last_in_any.Given as goal

abbrev pub invariant-loop-made : goal.invariant-loop-made
invariant-loop-made l = later l.last (last_try (drop l.made-index l.tries) (address l.addr)) ≡ last_try l.tries (address l.addr)
