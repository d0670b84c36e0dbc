-- What a stop leaves of something that is kept. Its moments are the numbers from 0 to the present one, and `images k` is
-- what a stop at the moment k may have left.
use Rattle.std.specs.Prelude.{ℕ, ◌≤◌}

-- moments only grow, and no image of an earlier moment is new
pub record MomentsGrew {A : Type 0} (moment : ℕ) (images : ℕ → A → Type 0) (moment' : ℕ) (images' : ℕ → A → Type 0) : Type 0 where
  pub later : moment ≤ moment'
  pub before : (k : ℕ) (a : A) → k ≤ moment → images' k a → images k a
