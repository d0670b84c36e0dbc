-- One call of a take-in, as it is to its store (own).
use Rattle.std.specs.Prelude.{◌≡◌, ◌⊎◌, ℕ, ◌≤◌, ◌<◌, Option, Some, None}
use Rattle.ftn_addr.specs.Counts.{Increased, next_count}
use Rattle.ftn_addr.specs.Moments.{MomentsGrew}
use Rattle.node_model.specs.Calls.{Counts}
use Rattle.node_model.specs.declared.store.StoreFault.{StoreFault}
use Rattle.node_model.specs.declared.store.StoreFault.TheVariants.{Disk, Full, NoMemory}
use Rattle.node_model.specs.StoreStates.{Shelf, Stored, StoreState, StoreStand}
use Rattle.node_model.specs.Stores.{StoreAnswer, StoreCall, StoreKept, Stage, Stage_copy, Queue_all, Read_part, Act_next, Refuses, IsShelf, OpensShelf, TellsOn}
use Rattle.node_model.specs.StoreWords.{IsNewBatch}
use Rattle.take_steps.specs.declared.wanting.Wanting.{Wanting}
use Rattle.take_steps.specs.declared.wanting.Wanting.TheVariants.{Places, Memory}

-- a want, as the fault of a store
abbrev pub fault_of : Wanting → StoreFault
fault_of Places = Full
fault_of Memory = NoMemory

-- the calls of a store that a take-in makes: it stages files, queues them, and acts on their sources; an answer to a request reads it too
abbrev pub TakesIn : StoreCall → StoreState → Type 0
TakesIn (Stage bytes) s = Unit {0}
TakesIn (Stage_copy path) s = Unit {0}
TakesIn (Queue_all taken answered files) s = IsNewBatch taken answered files s
TakesIn (Act_next dest) s = Unit {0}
TakesIn (Read_part receipt at room) s = Unit {0}
TakesIn call s = ⊥

abbrev pub IsMade : StoreAnswer → Type 0
IsMade (Refuses fault) = ⊥
IsMade answer = Unit {0}

-- what a node keeps, and the log, are the same
pub record SameNode (old new : Stored) : Type 0 where
  pub stock : new.stock ≡ old.stock
  pub log : new.log ≡ old.log

-- the durable state is what is told
abbrev pub KeepsState : Option Stored → Shelf → Type 0
KeepsState None d = ⊥
KeepsState (Some a) d = d.state ≡ a.stock.state

-- Takes and files of other programs may have changed, and the counts; all else is the same, and so is the durable state that a stop
-- leaves.
pub record Quiet (old new : StoreStand) : Type 0 where
  pub told : TellsOn SameNode old.state.content new.state.content
  pub same : new.state ≡ record old.state { content = new.state.content; counts = new.state.counts }
  pub moments : MomentsGrew old.moment old.images new.moment new.images
  pub since : (k : ℕ) (d : Option Shelf) → old.moment < k → k ≤ new.moment → new.images k d → OpensShelf (KeepsState old.state.content) d
  pub now : new.state.counts.broken ≡ None → (d : Option Shelf) → new.images new.moment d → OpensShelf (IsShelf new.state.content) d

-- the disk failed, and the store is broken
pub record Failed (old new : Counts) : Type 0 where
  pub rose : Increased old.faults new.faults
  pub is : new ≡ record old { faults = new.faults; broken = Some new.faults }

-- A call of the store, made or refused; or a quiet one, which the disk may have failed. It may have found no memory, or no number
-- for a take, which counts as no place. What is wanted then is told.
pub data StoreStep (old new : StoreStand) : Option Wanting → Type 0 where
  Made : (call : StoreCall) (answer : StoreAnswer) → TakesIn call old.state → IsMade answer → StoreKept old call answer new → StoreStep old new None
  Broke : (call : StoreCall) → TakesIn call old.state → StoreKept old call (Refuses Disk) new → StoreStep old new None
  Refused : (call : StoreCall) (want : Wanting) → TakesIn call old.state → StoreKept old call (Refuses (fault_of want)) new → StoreStep old new (Some want)
  Stayed : Quiet old new → new.state.counts ≡ old.state.counts → StoreStep old new None
  Broke_quietly : Quiet old new → Failed old.state.counts new.state.counts → StoreStep old new None
  Had_no_memory : Quiet old new → new.state.counts ≡ old.state.counts → StoreStep old new (Some Memory)
  Had_no_number : Quiet old new → new.state.counts ≡ record old.state.counts { fulls = next_count old.state.counts.fulls } → StoreStep old new (Some Places)

-- Once something was wanted there are quiet calls alone, and it stays wanted.
abbrev pub StepFrom : Option Wanting → StoreStand → StoreStand → Option Wanting → Type 0
StepFrom None old new now = StoreStep old new now
StepFrom (Some want) old new now =
    (now ≡ Some want) × Quiet old new × ((new.state.counts ≡ old.state.counts) ⊎ Failed old.state.counts new.state.counts)

-- one call at a store that isn't broken, where this was wanted before and that after it
pub record Stepped (old : StoreStand) (was : Option Wanting) (new : StoreStand) (now : Option Wanting) : Type 0 where
  pub whole : old.state.counts.broken ≡ None
  pub step : StepFrom was old new now
