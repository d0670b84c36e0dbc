-- Which turns of which addresses wait (own).
use Rattle.std.specs.Prelude.{◌≡◌, ◌==◌, ◌&&◌, ◌⊎◌, Bool, true, false, ◌<◌, List, Option, Some, None}
use Rattle.std.specs.BTreeSet.{BTreeSet}
use Rattle.std.specs.List.{list_any}
use Rattle.std.specs.Map.{lookup}
use Rattle.ftn_addr.specs.Address.{Address, address, same_address}
use Rattle.ftn_addr.specs.declared.addr.Addr.{Addr}
use Rattle.file_index.specs.declared.turns.Turn.{Turn}
use Rattle.file_index.specs.declared.turns.TurnIndex.{TurnIndex}

abbrev pub same_turn : Turn → Turn → Bool
same_turn t u = t.rank == u.rank && t.number == u.number

abbrev pub has_turn : Option (BTreeSet Turn) → Turn → Bool
has_turn None t = false
has_turn (Some turns) t = list_any (λ u. same_turn t u) turns.keys

-- the turn is among those of the address
abbrev pub waits : List (Addr × BTreeSet Turn) → Address → Turn → Bool
waits entries to t = has_turn (lookup (λ a. same_address to (address a)) entries) t

-- while it is whole, the index has exactly the turns of which this is true
abbrev pub Turns : TurnIndex → (Address → Turn → Bool) → Type 0
Turns index p = index.whole ≡ true → (to : Address) (t : Turn) → waits index.turns.entries to t ≡ p to t

-- by rank, then by number
abbrev pub IsLater : Turn → Turn → Type 0
IsLater t u = (u.rank < t.rank) ⊎ ((u.rank ≡ t.rank) × (u.number < t.number))

-- behind that one, or any
abbrev pub IsPast : Option Turn → Turn → Type 0
IsPast None t = Unit {0}
IsPast (Some at) t = IsLater t at

-- the first that waits behind that one
pub record FirstPast (p : Turn → Bool) (after : Option Turn) (next : Turn) : Type 0 where
  pub waits : p next ≡ true
  pub past : IsPast after next
  pub first : (t : Turn) → p t ≡ true → IsPast after t → (t ≡ next) ⊎ IsLater t next

abbrev pub NextTurn : (Turn → Bool) → Option Turn → Option Turn → Type 0
NextTurn p after None = (t : Turn) → p t ≡ true → IsPast after t → ⊥
NextTurn p after (Some next) = FirstPast p after next
