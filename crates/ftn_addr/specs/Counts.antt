-- Counts of faults and their kin. No count ever falls. A count that stands at 2^64 - 1 counts as risen.
use Rattle.std.specs.Prelude.{ℕ, ◌+◌, ◌-◌, ◌^◌, ◌≤◌, min, max, List, [], ◌∷◌}

-- one more; a count at its end stays there
abbrev pub next_count : ℕ → ℕ
next_count n = max n (min (n + 1) (2 ^ 64 - 1))

-- the count rose; one at its end counts as risen
abbrev pub Increased : ℕ → ℕ → Type 0
Increased before now = min (before + 1) (2 ^ 64 - 1) ≤ now

-- the count stayed or rose
abbrev pub CountGrew : ℕ → ℕ → Type 0
CountGrew before now = min before (2 ^ 64 - 1) ≤ now

-- each of these counts stayed or rose
abbrev pub CountsGrew : (before now : List ℕ) → Type 0
CountsGrew (m ∷ before) (n ∷ now) = CountGrew m n × CountsGrew before now
CountsGrew [] [] = Unit {0}
CountsGrew before now = ⊥
