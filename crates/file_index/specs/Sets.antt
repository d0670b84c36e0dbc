-- Which numbers a set has, and which comes next (own).
use Rattle.std.specs.Prelude.{◌≡◌, ◌==◌, ◌≤◌, ◌<◌, ℕ, Bool, true, Option, Some, None}
use Rattle.std.specs.List.{list_any}
use Rattle.file_index.specs.declared.sets.NumberSet.{NumberSet}

abbrev pub is_in : ℕ → NumberSet → Bool
is_in n set = list_any (λ m. n == m) set.numbers.keys

-- while it is whole, the set has exactly the numbers of which this is true
abbrev pub Kept : NumberSet → (ℕ → Bool) → Type 0
Kept set p = set.whole ≡ true → (n : ℕ) → is_in n set ≡ p n

-- above that one, or any
abbrev pub IsAbove : Option ℕ → ℕ → Type 0
IsAbove None n = Unit {0}
IsAbove (Some at) n = at < n

-- the least above that one
pub record LeastAbove (p : ℕ → Bool) (after : Option ℕ) (next : ℕ) : Type 0 where
  pub is : p next ≡ true
  pub above : IsAbove after next
  pub least : (n : ℕ) → p n ≡ true → IsAbove after n → next ≤ n

abbrev pub NextNumber : (ℕ → Bool) → Option ℕ → Option ℕ → Type 0
NextNumber p after None = (n : ℕ) → p n ≡ true → IsAbove after n → ⊥
NextNumber p after (Some next) = LeastAbove p after next
