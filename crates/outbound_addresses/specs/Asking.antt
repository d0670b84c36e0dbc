-- Questions to a store, one after another (own).
use Rattle.std.specs.Prelude.{◌≡◌, ℕ, ◌<◌, ◌≤◌, Bool, true, false, Option, None, Result, IsSome}
use Rattle.ftn_addr.specs.Moments.{MomentsGrew}
use Rattle.node_model.specs.declared.store.StoreFault.{StoreFault}
use Rattle.node_model.specs.Outside.{OutFile}
use Rattle.node_model.specs.StoreStates.{Shelf, StoreStand}
use Rattle.node_model.specs.Stores.{IsShelf, OpensShelf}
use Rattle.node_store.specs.Asking.{AskedSo}

-- whether a file stands there
abbrev pub StandsSo : Bool → Option OutFile → Type 0
StandsSo true file = IsSome file
StandsSo false file = file ≡ None

-- Some calls that only ask, or none: what one such call says, of the moments after it began.
pub record AsksLater {T : Type 0} (result : Result T StoreFault) (old new : StoreStand) : Type 0 where
  pub made : AskedSo true result old.state new.state
  pub grew : MomentsGrew old.moment old.images new.moment new.images
  pub since : (k : ℕ) (d : Option Shelf) → old.moment < k → k ≤ new.moment → new.images k d → OpensShelf (IsShelf old.state.content) d
