-- Calls that take outside files into the own folder, and remove them there once they are taken in (own).
use Rattle.std.specs.Prelude.{◌≡◌, ℕ, ◌+◌, ◌≤◌, true, false, List, Option, Some, None, Result, Ok, Err, option_map, if◌then◌else◌, IsSome, length}
use Rattle.std.specs.Str.{bytes_eq}
use Rattle.ftn_addr.specs.Counts.{Increased, next_count}
use Rattle.ftn_addr.specs.declared.limits.TheConstants.{MAX_NUMBER}
use Rattle.ftn_addr.specs.Moments.{MomentsGrew}
use Rattle.disk_model.specs.declared.answers.Moved.{Moved}
use Rattle.disk_model.specs.declared.answers.Moved.TheVariants.{Done, Absent}
use Rattle.ledger_rec.specs.Fold.{is_among}
use Rattle.node_model.specs.declared.store.StoreFault.{StoreFault}
use Rattle.node_model.specs.declared.store.StoreFault.TheVariants.{Disk, Read, Full, NoMemory}
use Rattle.node_model.specs.Outside.{OutFile, OutFiles, put_at}
use Rattle.node_model.specs.StoreStates.{Shelf, Stored, StoreState, StoreStand, IfTold}
use Rattle.node_model.specs.Stores.{OpensShelf, IsShelf, Refuses, Stage, Staged_as, StoreKept}
use Rattle.node_store.specs.Names.{take_number}
use Rattle.node_store.specs.Stored.{Holding}
use Rattle.node_store.specs.Takes.{with_drawn}

-- the takes that stand, by their own names, and the files of other programs
pub record Around : Type 0 where
  pub takes : List ℕ → Option (List ℕ)
  pub outside : OutFiles

-- under one name this stands now, and the same under every other
abbrev pub put_take : List ℕ → Option (List ℕ) → (List ℕ → Option (List ℕ)) → List ℕ → Option (List ℕ)
put_take own file takes = λ name. if bytes_eq name own then file else takes name

-- an outside file becomes a take
abbrev pub file_taken : (path own : List ℕ) → Around → Around
file_taken path own a =
    record { takes = put_take own (option_map (λ (f : OutFile). f.bytes) (a.outside path)) a.takes; outside = put_at path None a.outside }

-- what each answer says
abbrev pub taken_so : (path own : List ℕ) → Moved → Around → Around
taken_so path own Done a = file_taken path own a
taken_so path own Absent a = a

-- whether a file stood there
abbrev pub HasMoved : Moved → Option OutFile → Type 0
HasMoved Done file = IsSome file
HasMoved Absent file = file ≡ None

-- a take is no more
abbrev pub take_gone : (own : List ℕ) → Unit {0} → Around → Around
take_gone own done a = record { takes = put_take own None a.takes; outside = a.outside }

-- what was made, if anything
abbrev pub made_so : {T : Type 0} → (T → Around → Around) → Option T → Around → Around
made_so does None a = a
made_so does (Some answer) a = does answer a

abbrev pub around : Stored → Around
around s = record { takes = s.takes; outside = s.outside }

abbrev pub stored_around : Around → Stored → Stored
stored_around a s = record s { takes = a.takes; outside = a.outside }

abbrev pub shelf_around : Around → Shelf → Shelf
shelf_around a s = record s { takes = a.takes; outside = a.outside }

-- takes and outside files changed so, and all else is the same
abbrev pub with_around : (Around → Around) → StoreState → StoreState
with_around f s = record s { content = option_map (λ (a : Stored). stored_around (f (around a)) a) s.content }

-- The disk failed: what one of the answers says was made, or nothing. The count rose, and the store is broken with that count.
pub record FailsToTake {T : Type 0} (does : T → Around → Around) (old new : StoreState) : Type 0 where
  pub rose : Increased old.counts.faults new.counts.faults
  pub made : Option T
  pub same : new ≡ record (with_around (made_so does made) old) { counts = record old.counts { faults = new.counts.faults; broken = Some new.counts.faults } }

abbrev pub TookSo : {T : Type 0} → (T → Around → Around) → Result T StoreFault → StoreState → StoreState → Type 0
TookSo does (Ok answer) old new = new ≡ with_around (does answer) old
TookSo does (Err Disk) old new = FailsToTake does old new
TookSo does (Err Read) old new = ⊥
TookSo does (Err Full) old new = ⊥
TookSo does (Err NoMemory) old new = ⊥

-- what may have been made: nothing yet, or what was answered; where the call was refused, what any answer says
abbrev pub MadeOf : {T : Type 0} → Result T StoreFault → Option T → Type 0
MadeOf result None = Unit {0}
MadeOf (Ok answer) (Some made) = made ≡ answer
MadeOf (Err fault) (Some made) = Unit {0}

-- A call on takes: no image of an earlier moment is new; at each moment since it began a stop leaves what was kept before it, or
-- that with what was made; and at its end what is kept then, unless the store is broken.
pub record Takes {T : Type 0} (does : T → Around → Around) (result : Result T StoreFault) (old new : StoreStand) : Type 0 where
  pub made : TookSo does result old.state new.state
  pub grew : MomentsGrew old.moment old.images new.moment new.images
  pub since : (k : ℕ) (d : Option Shelf) → old.moment ≤ k → k ≤ new.moment → new.images k d → OpensShelf (λ shelf. (made : Option T) × MadeOf result made × IsShelf (with_around (made_so does made) old.state).content shelf) d
  pub now : new.state.counts.broken ≡ None → (d : Option Shelf) → new.images new.moment d → OpensShelf (IsShelf new.state.content) d

-- No take has that number: it isn't recorded, and no take of it stands.
pub record IsFreshTake (take : ℕ) (s : StoreState) : Type 0 where
  pub unrecorded : is_among take s.recorded ≡ false
  pub free : IfTold s.content (λ a. (own : List ℕ) → take_number own ≡ Some take → a.takes own ≡ None)

-- The number behind the last is drawn; without memory nothing changes; where the last is the greatest, the count of such refusals
-- rises alone.
abbrev pub DrawsTake : {D : Type 0} → Result ℕ StoreFault → Holding D → Holding D → Type 0
DrawsTake (Ok take) old new = (take ≡ old.takes.last + 1) × (new ≡ record old { takes = with_drawn old.takes })
DrawsTake (Err Disk) old new = ⊥
DrawsTake (Err Read) old new = ⊥
DrawsTake (Err Full) old new = (old.takes.last ≡ MAX_NUMBER) × (new ≡ record old { memory = record old.memory { fulls = next_count old.memory.fulls } })
DrawsTake (Err NoMemory) old new = new ≡ old

-- the name of a take whose number is recorded, and that stands
pub record IsRecordedTake (own : List ℕ) (s : StoreState) : Type 0 where
  pub take : ℕ
  pub named : take_number own ≡ Some take
  pub recorded : is_among take s.recorded ≡ true
  pub stands : IfTold s.content (λ a. IsSome (a.takes own))

-- the name of a take that stands
pub record IsStandingTake (own : List ℕ) (s : StoreState) : Type 0 where
  pub take : ℕ
  pub named : take_number own ≡ Some take
  pub stands : IfTold s.content (λ a. IsSome (a.takes own))

-- The bytes of a take are staged, which are so many.
abbrev pub StagesOwn : List ℕ → Result (ℕ × ℕ) StoreFault → StoreStand → StoreStand → Type 0
StagesOwn own (Ok staged) old new = (bytes : List ℕ) × (length bytes ≡ staged.1) × IfTold old.state.content (λ a. a.takes own ≡ Some bytes) × StoreKept old (Stage bytes) (Staged_as staged.0) new
StagesOwn own (Err fault) old new = (bytes : List ℕ) × IfTold old.state.content (λ a. a.takes own ≡ Some bytes) × StoreKept old (Stage bytes) (Refuses fault) new
