-- Two writes to one file, as a caller of a disk sees them (own).
use Rattle.std.specs.Prelude.{◌≡◌, ◌⊎◌, ℕ, ◌+◌, ◌<◌, ◌≤◌, max, List, length, Some}
use Rattle.std.specs.List.{slice_get}
use Rattle.disk_model.specs.World.{World}
use Rattle.disk_model.specs.Changes.{Holds}

-- the place is in front of a range of n bytes, or behind it
abbrev pub IsOutside : ℕ → ℕ → ℕ → Type 0
IsOutside at n k = (k < at) ⊎ (at + n ≤ k)

-- After two writes that may be in part: as the old file outside both ranges, and no shorter than that and no longer than
-- both writes make it.
pub record TornTwice (at n at' n' : ℕ) (old new : List ℕ) : Type 0 where
  pub outside : (k : ℕ) → k < length old → IsOutside at n k → IsOutside at' n' k → slice_get new k ≡ slice_get old k
  pub no_shorter : length old ≤ length new
  pub no_longer : length new ≤ max (max (length old) (at + n)) (at' + n')

-- after two writes that were made
abbrev pub HoldsTwice : ℕ → List ℕ → ℕ → List ℕ → List ℕ → List ℕ → Type 0
HoldsTwice at bytes at' bytes' old new = (mid : List ℕ) × Holds at bytes old mid × Holds at' bytes' mid new

-- what stood under the name became this
abbrev pub Became : List ℕ → (List ℕ → List ℕ → Type 0) → World → World → Type 0
Became name R d c = (b : List ℕ) → d.own name ≡ Some b → (e : List ℕ) × (c.own name ≡ Some e) × R b e
