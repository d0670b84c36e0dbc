-- An own file as a disk in memory keeps it (own).
use Rattle.std.specs.Prelude.{ℕ, ◌+◌, ◌-◌, List, [], ◌∷◌, ◌++◌, length, take, drop, Bool, nat_le, nat_lt, nat_eq, ◌&&◌, if◌then◌else◌}
use Rattle.std.specs.List.{list_any}

-- The bytes as a read gives them, those that the last sync left, and the ranges that were changed since: where each
-- begins, and how many bytes of it were written. A cut is a range of no bytes.
pub record Kept : Type 0 where
  pub written : List ℕ
  pub synced : List ℕ
  pub ranges : List (ℕ × ℕ)

-- a file with no change that no sync followed
abbrev pub settled : List ℕ → Kept
settled bytes = record { written = bytes; synced = bytes; ranges = [] }

-- a file made anew, whose bytes are all a written range
abbrev pub unsynced : List ℕ → Kept
unsynced bytes = record { written = bytes; synced = []; ranges = (0, length bytes) ∷ [] }

abbrev pub splice : ℕ → List ℕ → List ℕ → List ℕ
splice at bytes old = take at old ++ bytes ++ drop (at + length bytes) old

-- after a write, a cut, a sync; a place past the end changes nothing
abbrev pub written_over : ℕ → List ℕ → Kept → Kept
written_over at bytes f =
    if nat_le at (length f.written) then record { written = splice at bytes f.written; synced = f.synced; ranges = f.ranges ++ (at, length bytes) ∷ [] } else f

abbrev pub shortened : ℕ → Kept → Kept
shortened len f =
    if nat_le len (length f.written) then record { written = take len f.written; synced = f.synced; ranges = f.ranges ++ (len, 0) ∷ [] } else f

abbrev pub made_durable : Kept → Kept
made_durable f = settled f.written

abbrev pub is_changed : Kept → Bool
is_changed f = nat_lt 0 (length f.ranges)

-- whether the byte at a place is in an unsynced range
abbrev pub is_open : List (ℕ × ℕ) → ℕ → Bool
is_open ranges k = list_any (λ r. nat_le r.0 k && nat_lt k (r.0 + r.1)) ranges

-- the bytes from the place k on, with the unsynced ones changed
abbrev pub spoiled : (ℕ → ℕ) → List (ℕ × ℕ) → ℕ → List ℕ → List ℕ
spoiled how ranges k [] = []
spoiled how ranges k (b ∷ bs) = (if is_open ranges k then how b else b) ∷ spoiled how ranges (k + 1) bs

-- what an unsynced byte may be: by the digit 2 255 minus it, by 3 the byte 1
abbrev pub spoilt_by : ℕ → ℕ → ℕ
spoilt_by digit b = if nat_eq digit 2 then 255 - b else 1

-- What a stop leaves of the file: by the digit 0 what the last sync left, by 1 all as written, by 2 and 3 as written but
-- for the unsynced bytes.
abbrev pub chosen : ℕ → Kept → List ℕ
chosen digit f = if nat_eq digit 0 then f.synced else (if nat_eq digit 1 then f.written else spoiled (spoilt_by digit) f.ranges 0 f.written)
