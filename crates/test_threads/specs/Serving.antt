-- Slots while callers are served (own).
use Rattle.std.specs.Prelude.{◌≡◌, ◌≢◌, ℕ, false, List, Option, Some, None, length, slice_get}
use Rattle.binkp_link.specs.MemLines.{mem_state}
use Rattle.binkp_link.specs.declared.mem_line.MemLine.{MemLine}
use Rattle.session_threads.specs.Lent.{AllHere}
use Rattle.session_threads.specs.Slots.{Rests_here, Taken_out, Whereabouts}

-- each of the three seats has a slot, and no pass is taken out
pub record NoneOut {X : Type 0} (slots : List (Whereabouts X)) : Type 0 where
  pub seats : length slots ≡ 3
  pub none : (k : ℕ) → slice_get slots k ≢ Some Taken_out

-- each of the three seats has a slot, and each pass is here
pub record AllBack {X : Type 0} (slots : List (Whereabouts X)) : Type 0 where
  pub seats : length slots ≡ 3
  pub here : AllHere slots

-- the pass of that seat is here, and all others are where they were; none is taken out
pub record IsBack {X : Type 0} (seat : ℕ) (old new : List (Whereabouts X)) : Type 0 where
  pub none_out : NoneOut new
  pub here : (w : Whereabouts X) → slice_get new seat ≡ Some w → (left : X) × (w ≡ Rests_here left)
  pub others : (k : ℕ) → k ≢ seat → slice_get new k ≡ slice_get old k

-- nothing was done on the line yet
pub record IsNewLine (line : MemLine) : Type 0 where
  pub calm : (mem_state line).calm ≡ 0
  pub is_open : (mem_state line).closed ≡ false

abbrev pub IfLine : Option MemLine → Type 0
IfLine None = Unit {0}
IfLine (Some line) = IsNewLine line
