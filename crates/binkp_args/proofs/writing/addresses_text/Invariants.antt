use Rattle.std.proofs.Common.{◌≡◌, ◌∷◌, ◌++◌, take}
use Rattle.std.specs.List.{flat_map}
use Rattle.ftn_addr.specs.Address.{address}
use Rattle.ftn_addr.specs.Writing.{canonical}
use Rattle.binkp_args.proofs.writing.addresses_text.Given as goal

abbrev pub invariant-loop-addr : goal.invariant-loop-addr
invariant-loop-addr l =
    l.text.list ≡ l.initial.text.list ++ flat_map (λ a. 32 ∷ canonical (address a)) (take l.addr-index l.more)
