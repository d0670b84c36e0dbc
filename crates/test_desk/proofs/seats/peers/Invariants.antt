use Rattle.std.proofs.Common.{map}
use Rattle.std.specs.List.{All}
use Rattle.ftn_addr.specs.Address.{address}
use Rattle.ftn_addr.specs.Limits.{IsAddress}
use Rattle.test_desk.proofs.seats.peers.Given as goal

abbrev pub invariant-loop-word : goal.invariant-loop-word
invariant-loop-word l = All IsAddress (map address l.peers.items)
