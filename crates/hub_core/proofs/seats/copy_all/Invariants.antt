use Rattle.std.proofs.Common.{◌≡◌, map, take}
use Rattle.ftn_addr.specs.Address.{address}
use Rattle.hub_core.proofs.seats.copy_all.Given as goal

abbrev pub invariant-loop-addr : goal.invariant-loop-addr
invariant-loop-addr l = map address l.copies.items ≡ map address (take l.addr-index l.addrs)
