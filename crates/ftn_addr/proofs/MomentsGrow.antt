-- How moments follow one another.
use Rattle.std.proofs.Common.{ℕ, ◌≤◌, arith}
use Rattle.ftn_addr.specs.Moments.{MomentsGrew}

pub moments_grew-refl : {A : Type 0} (moment : ℕ) (images : ℕ → A → Type 0) → MomentsGrew moment images moment images
moments_grew-refl moment images = record { later = omega arith; before = λ k a early left. left }

pub moments_grew-then : {A : Type 0} (m : ℕ) (I : ℕ → A → Type 0) (n : ℕ) (J : ℕ → A → Type 0) (o : ℕ) (K : ℕ → A → Type 0)
    → MomentsGrew m I n J → MomentsGrew n J o K → MomentsGrew m I o K
moments_grew-then m I n J o K x y = record {
  later = omega (arith, x.later, y.later);
  before = λ k a early left. x.before k a early (y.before k a (let on : m ≤ n = x.later in omega (arith, early, on)) left);
}
