use Rattle.std.proofs.Common.{◌≡◌, map, take}
use Rattle.std.specs.List.{filter_map}
use Rattle.ftn_addr.specs.Address.{address}
use Rattle.binkp_args.specs.Addresses.{address_in}
use Rattle.binkp_args.proofs.addresses.addresses_of.Given as goal

abbrev pub invariant-loop-word : goal.invariant-loop-word
invariant-loop-word l =
    map address l.addrs.items ≡ filter_map (address_in (address l.home)) (map (λ w. w.now) (take l.word-index l.words))
