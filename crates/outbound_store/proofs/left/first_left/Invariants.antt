use Rattle.std.proofs.Common.{map, take}
use Rattle.ftn_addr.specs.Address.{address}
use Rattle.outbound_take.specs.Calls.{FirstFor, next_above}
use Rattle.outbound_store.specs.Held.{left_of}
use Rattle.outbound_store.proofs.left.first_left.Given as goal

abbrev pub invariant-loop-taken : goal.invariant-loop-taken
invariant-loop-taken l = FirstFor (address l.dest) (next_above l.above) l.first (map left_of (take l.taken-index l.takes))
