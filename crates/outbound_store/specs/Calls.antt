-- What each call of a take-in is to the store beneath it (own).
use Rattle.std.specs.Prelude.{Option, Some, None, Result, Err}
use Rattle.node_model.specs.declared.store.StoreFault.{StoreFault}
use Rattle.node_model.specs.declared.store.StoreFault.TheVariants.{Full, NoMemory}
use Rattle.node_model.specs.StoreStates.{Shelf, StoreStand}
use Rattle.node_model.specs.Stores.{IsShelf, OpensShelf}
use Rattle.take_steps.specs.Steps.{Stepped}
use Rattle.take_steps.specs.declared.wanting.Wanting.{Wanting}
use Rattle.take_steps.specs.declared.wanting.Wanting.TheVariants.{Places, Memory}
use Rattle.outbound_store.specs.GoesOn.{GoesOn}

-- what such an answer tells of what was wanted
abbrev pub want_in : {T : Type 0} → Result T StoreFault → Option Wanting
want_in (Err Full) = Some Places
want_in (Err NoMemory) = Some Memory
want_in answer = None

-- each image now is what is told
abbrev pub NowIsTold : StoreStand → Type 0
NowIsTold s = (d : Option Shelf) → s.images s.moment d → OpensShelf (IsShelf s.state.content) d

-- What was received stays, and the call is one step of the store, where this was wanted before and that after it.
pub record CallOf (old : StoreStand) (was : Option Wanting) (new : StoreStand) (now : Option Wanting) : Type 0 where
  pub goes_on : GoesOn old new
  pub stepped : Stepped old was new now
