-- The files whose source waits for its action, by number (own).
use Rattle.std.specs.Prelude.{◌&&◌, ℕ, Bool, not, nat_lt, List}
use Rattle.std.specs.List.{list_any}
use Rattle.ftn_addr.specs.Address.{Address, same_address}
use Rattle.file_index.specs.Turns.{same_turn}
use Rattle.file_index.specs.declared.turns.Turn.{Turn}
use Rattle.ledger_rec.specs.Items.{Entry}

-- the turn of a file by its number alone
abbrev pub acting_turn : ℕ → Turn
acting_turn number = record { rank = 0; number = number }

-- something is to be done with the file's source, and wasn't
abbrev pub has_action : Entry → Bool
has_action e = nat_lt 0 e.action && not e.acted

-- such a file waits for its address at its turn
abbrev pub acts_at : Address → Turn → Entry → Bool
acts_at to t e = has_action e && (same_address to e.dest && same_turn t (acting_turn e.number))

abbrev pub is_acting : List Entry → Address → Turn → Bool
is_acting queue to t = list_any (acts_at to t) queue
