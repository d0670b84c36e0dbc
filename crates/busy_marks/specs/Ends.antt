-- How many calls of a disk end together (own).
use Rattle.std.specs.Prelude.{ℕ}
use Rattle.disk_model.specs.Changes.{Every, Follows, Same}
use Rattle.disk_model.specs.Moments.{Leaves, Now}
use Rattle.disk_model.specs.World.{World}

-- At their end a read and a stop agree on what was made, and what was made fits the answer.
pub record EndsAs {D X : Type 0} (files : D → World → Type 0) (moment : D → ℕ) (images : D → ℕ → World → Type 0) (fits : X → Type 0) (step : X → World → World → Type 0) (old new : D) : Type 0 where
  pub made : X
  pub answered : fits made
  pub read : Follows (step made) (files old) (files new)
  pub left : Follows (step made) (Now moment images old) (Now moment images new)

-- They changed nothing, of what is read and of what a stop leaves at any moment.
pub record ChangesNothing {D : Type 0} (files : D → World → Type 0) (moment : D → ℕ) (images : D → ℕ → World → Type 0) (old new : D) : Type 0 where
  pub read : Every (files new) (files old)
  pub stop : Leaves moment images Same old new
