-- The addresses of an M_ADR (FTS-1026, M_ADR).
use Rattle.std.specs.Prelude.{ℕ, List, [], ◌∷◌, Option, Result, Ok, Err}
use Rattle.std.specs.Result.{result_ok}
use Rattle.std.specs.List.{filter_map}
use Rattle.ftn_addr.specs.Address.{Address}
use Rattle.ftn_addr.specs.Reading.{reading}
use Rattle.binkp_args.specs.declared.fault.ArgFault.{ArgFault}
use Rattle.binkp_args.specs.declared.fault.ArgFault.TheVariants.{NoAddress}

-- the address that a word spells, if it spells one
abbrev pub address_in : Address → List ℕ → Option Address
address_in home word = result_ok (reading word home)

abbrev pub some_address : List Address → Result (List Address) ArgFault
some_address [] = Err NoAddress
some_address (a ∷ more) = Ok (a ∷ more)

-- Words that spell no address are passed over (own).
abbrev pub addresses_of : Address → List (List ℕ) → Result (List Address) ArgFault
addresses_of home words = some_address (filter_map (address_in home) words)
