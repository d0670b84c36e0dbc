-- How counts rise, one step behind another.
use Rattle.std.proofs.Common.{◌≡◌, ◌⊎◌, ℕ, ◌-◌, ◌^◌, ◌<◌, ◌≤◌, List, [], ◌∷◌, inl, inr, sym, subst, arith}
use Rattle.std.proofs.lemmas.Bool.{cases_lt}
use Rattle.ftn_addr.specs.Counts.{next_count, Increased, CountGrew, CountsGrew}

pub increased-next_count : (n : ℕ) → Increased n (next_count n)
increased-next_count n = omega arith

pub increased-is : (a b : ℕ) → b ≡ next_count a → Increased a b
increased-is a b is = subst (Increased a) (sym is) (increased-next_count a)

pub count_grew-refl : (n : ℕ) → CountGrew n n
count_grew-refl n = omega arith

pub count_grew-le : (a b : ℕ) → a ≤ b → CountGrew a b
count_grew-le a b on = omega (arith, on)

pub count_grew-increased : (a b : ℕ) → Increased a b → CountGrew a b
count_grew-increased a b up = omega (arith, up)

pub count_grew-then : (a b c : ℕ) → CountGrew a b → CountGrew b c → CountGrew a c
count_grew-then a b c first second = omega (arith, first, second)

pub increased-then : (a b c : ℕ) → Increased a b → CountGrew b c → Increased a c
increased-then a b c up on = omega (arith, up, on)

pub then-increased : (a b c : ℕ) → CountGrew a b → Increased b c → Increased a c
then-increased a b c on up = omega (arith, on, up)

-- a count of 64 bits didn't fall
pub count_grew-within : (a b : ℕ) → a ≤ 2 ^ 64 - 1 → CountGrew a b → a ≤ b
count_grew-within a b within on = omega (arith, within, on)

-- a count that grew stayed or rose
pub stays_or_increased : (a b : ℕ) → CountGrew a b → (b ≡ a) ⊎ Increased a b
stays_or_increased a b on = elim (cases_lt a b) [ inl above ↦ inr (omega (arith, above)) | inr not ↦ at_end (cases_lt a (2 ^ 64 - 1)) not ]
  where
    at_end : (a < 2 ^ 64 - 1) ⊎ (2 ^ 64 - 1 ≤ a) → b ≤ a → (b ≡ a) ⊎ Increased a b
    at_end (inl small) not = inl (omega (arith, on, not, small))
    at_end (inr large) not = inr (omega (arith, on, not, large))

pub counts_grew-refl : (a : List ℕ) → CountsGrew a a
counts_grew-refl [] = tt
counts_grew-refl (n ∷ a) = (count_grew-refl n, counts_grew-refl a)

pub counts_grew-then : (a b c : List ℕ) → CountsGrew a b → CountsGrew b c → CountsGrew a c
counts_grew-then [] [] [] x y = tt
counts_grew-then (l ∷ a) (m ∷ b) (n ∷ c) x y = (count_grew-then l m n x.0 y.0, counts_grew-then a b c x.1 y.1)
counts_grew-then [] [] (n ∷ c) x y = absurd y
counts_grew-then [] (m ∷ b) c x y = absurd x
counts_grew-then (l ∷ a) [] c x y = absurd x
counts_grew-then (l ∷ a) (m ∷ b) [] x y = absurd y
