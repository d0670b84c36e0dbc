-- Which entries are offered, as tests (own).
use Rattle.std.specs.Prelude.{ℕ, Bool, true, not, ◌&&◌, ◌||◌, ◌==◌, nat_lt, Option, Some, None}
use Rattle.ftn_addr.specs.Address.{Address, same_address}
use Rattle.node_model.specs.declared.words.Flavour.{Flavour}
use Rattle.node_model.specs.Items.{Entry}
use Rattle.node_model.specs.SendRows.{rank}
use Rattle.node_model.specs.Stocks.{is_live}

-- a file of that flavour and number is behind that place
abbrev pub is_behind : Option (Flavour × ℕ) → Flavour → ℕ → Bool
is_behind None flavour number = true
is_behind (Some at) flavour number =
    nat_lt (rank at.0) (rank flavour) || (rank at.0 == rank flavour && nat_lt at.1 number)

-- that place isn't behind the best so far
abbrev pub is_before : Flavour × ℕ → Option (Flavour × ℕ) → Bool
is_before place None = true
is_before place (Some best) = not (is_behind (Some best) place.0 place.1)

-- a live entry for that address behind that place
abbrev pub offers : Address → Option (Flavour × ℕ) → Entry → Bool
offers dest after e = is_live e.body && (same_address dest e.dest && is_behind after e.flavour e.number)
