use Rattle.std.proofs.Common.{◌≡◌, ◌++◌, drop, map}
use Rattle.ftn_addr.specs.Address.{address}
use Rattle.session_auth.specs.Greeting.{announced, fitting}
use Rattle.session_auth.proofs.greeting.announced.Given as goal

abbrev pub invariant-loop-addr : goal.invariant-loop-addr
invariant-loop-addr l =
    map address l.told.items ++ fitting l.room (map address (drop l.addr-index l.addresses)) ≡ announced (map address l.addresses)
