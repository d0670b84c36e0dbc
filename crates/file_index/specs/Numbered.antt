-- Where numbers stand in a list of numbers (own).
use Rattle.std.specs.Prelude.{◌≡◌, ◌==◌, ℕ, suc, Bool, true, List, [], ◌∷◌, Option, Some, None, option_map, if◌then◌else◌}
use Rattle.std.specs.BTreeMap.{get}
use Rattle.std.specs.List.{list_any}
use Rattle.std.specs.Ordering.{nat_cmp}
use Rattle.file_index.specs.declared.numbers.NumberIndex.{NumberIndex}

abbrev pub is_among : ℕ → List ℕ → Bool
is_among number numbers = list_any (λ n. n == number) numbers

-- where a number stands first
abbrev pub first : ℕ → List ℕ → Option ℕ
first number [] = None
first number (n ∷ ns) = if n == number then Some 0 else option_map (λ i. suc i) (first number ns)

-- while it is whole, the index has the first place of each number
abbrev pub Numbers : NumberIndex → List ℕ → Type 0
Numbers index numbers = index.whole ≡ true → (n : ℕ) → get nat_cmp index.places n ≡ first n numbers
