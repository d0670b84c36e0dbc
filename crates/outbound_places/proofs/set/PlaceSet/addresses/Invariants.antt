use Rattle.std.proofs.Common.{◌≡◌, ◌++◌, map}
use Rattle.ftn_addr.specs.Address.{address}
use Rattle.outbound_places.specs.Places.{address_at}
use Rattle.outbound_places.proofs.set.PlaceSet.addresses.Given as goal

abbrev pub invariant-loop-place : goal.invariant-loop-place
invariant-loop-place l =
    map address l.found.items ++ map (address_at l.domain.list) l.place-iterator ≡ map (address_at l.domain.list) l.self.places.keys
