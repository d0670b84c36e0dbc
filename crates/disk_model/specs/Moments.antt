-- The moments of a disk are the numbers up to `moment`, and `images d k` is what a stop at the moment k may have left.
use Rattle.std.specs.Prelude.{◌≡◌, ℕ, ◌+◌, ◌≤◌, Option, Some, None, Result, IfOk}
use Rattle.ftn_addr.specs.Moments.{MomentsGrew}
use Rattle.disk_model.specs.World.{World}
use Rattle.disk_model.specs.Changes.{Every, Follows, Same}

module _ {D : Type 0} (moment : D → ℕ) (images : D → ℕ → World → Type 0) where
  -- what a stop now may leave
  abbrev pub Now : D → World → Type 0
  Now d = images d (moment d)

-- a stop now leaves what a read gives, and nothing else
abbrev pub AtRest : {D : Type 0} → (D → World → Type 0) → (D → ℕ) → (D → ℕ → World → Type 0) → D → Type 0
AtRest files moment images d = (c w : World) → images d (moment d) c → files d w → c ≡ w

-- One call: one moment more (none where there was no memory to note it), those before it stay as they were, and each
-- image now is one of those before after a step.
pub record Steps {D : Type 0} (moment : D → ℕ) (images : D → ℕ → World → Type 0) (step : World → World → Type 0) (old new : D) : Type 0 where
  pub grew : MomentsGrew (moment old) (images old) (moment new) (images new)
  pub next : moment new ≤ moment old + 1
  pub now : (c : World) → images new (moment new) c → (d : World) × images old (moment old) d × step d c

-- Many calls: at every moment since they began, each image is one of those at the beginning after a step.
pub record Leaves {D : Type 0} (moment : D → ℕ) (images : D → ℕ → World → Type 0) (step : World → World → Type 0) (old new : D) : Type 0 where
  pub grew : MomentsGrew (moment old) (images old) (moment new) (images new)
  pub each : (k : ℕ) (c : World) → moment old ≤ k → k ≤ moment new → images new k c → (d : World) × images old (moment old) d × step d c

-- the step of what was made, if anything
abbrev pub StepOf : {T : Type 0} → (T → World → World → Type 0) → Option T → World → World → Type 0
StepOf step (Some answer) old new = step answer old new
StepOf step None old new = Same old new

-- One call that happens at once. A read and a stop agree on what was made: what the answer names, and where the call
-- failed the step of one of its answers, or nothing.
pub record Together {D T E : Type 0} (files : D → World → Type 0) (moment : D → ℕ) (images : D → ℕ → World → Type 0) (result : Result T E) (step : T → World → World → Type 0) (old new : D) : Type 0 where
  pub made : Option T
  pub answered : IfOk result (λ answer. made ≡ Some answer)
  pub read : Follows (StepOf step made) (files old) (files new)
  pub stop : Steps moment images (StepOf step made) old new

-- Nothing changed, of what is read and of what a stop leaves.
pub record MakesNothing {D : Type 0} (files : D → World → Type 0) (moment : D → ℕ) (images : D → ℕ → World → Type 0) (old new : D) : Type 0 where
  pub read : Every (files new) (files old)
  pub stop : Steps moment images Same old new
