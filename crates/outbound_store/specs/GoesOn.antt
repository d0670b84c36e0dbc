-- What no call of a take-in changes in a store, whatever it answers (own).
use Rattle.std.specs.Prelude.{◌≡◌, ◌⊎◌, ℕ, ◌<◌, ◌≤◌, Option, Some}
use Rattle.ftn_addr.specs.Counts.{CountGrew, Increased}
use Rattle.ftn_addr.specs.Moments.{MomentsGrew}
use Rattle.node_model.specs.Calls.{Counts}
use Rattle.node_model.specs.StoreStates.{IfTold, Shelf, StoreStand, shelf_of}
use Rattle.node_model.specs.Stores.{OpensShelf, TellsOn}

-- the same files were received, refused and given, and the same parts are marked
pub record SameReceived (old new : Shelf) : Type 0 where
  pub inbox : new.state.inbox ≡ old.state.inbox
  pub refused : new.state.refused ≡ old.state.refused
  pub marks : new.state.marks ≡ old.state.marks
  pub gifts : new.gifts ≡ old.gifts

-- the disk failed meanwhile
pub record BrokeSince (old new : Counts) : Type 0 where
  pub rose : Increased old.faults new.faults
  pub count : ℕ
  pub is : new.broken ≡ Some count

-- The count of faults stayed or rose, and a store breaks only where it rose.
pub record CountsGoOn (old new : Counts) : Type 0 where
  pub faults : CountGrew old.faults new.faults
  pub broken : (new.broken ≡ old.broken) ⊎ BrokeSince old new

-- No image of an earlier moment is new. The store goes on to tell what it told, and what was received stays, as in each image since.
pub record GoesOn (old new : StoreStand) : Type 0 where
  pub moments : MomentsGrew old.moment old.images new.moment new.images
  pub counts : CountsGoOn old.state.counts new.state.counts
  pub tells : TellsOn (λ a b. SameReceived (shelf_of a) (shelf_of b)) old.state.content new.state.content
  pub since : (k : ℕ) (d : Option Shelf) → old.moment < k → k ≤ new.moment → new.images k d → IfTold old.state.content (λ a. OpensShelf (λ x. SameReceived (shelf_of a) x) d)
