-- The steps of taking in an outbound: of each its relation says what must hold before it and what it changes (own).
use Rattle.std.specs.Prelude.{◌≡◌, ℕ, true, false, List, [], ◌∷◌, ◌++◌, Some, None, option_map}
use Rattle.ftn_addr.specs.Address.{Address}
use Rattle.ftn_addr.specs.declared.source_file.Action.{Action}
use Rattle.ftn_addr.specs.declared.source_file.Action.TheVariants.{Leave, Delete, Cut}
use Rattle.bso_outbound.specs.declared.kind.Kind.{Kind}
use Rattle.node_model.specs.Items.{Entry}
use Rattle.node_model.specs.Lists.{Member}
use Rattle.node_model.specs.Durable.{all_acted}
use Rattle.node_model.specs.Outside.{OutFile, OutFiles, has_key}
use Rattle.outbound_model.specs.declared.fate.Fate.{Fate}
use Rattle.outbound_model.specs.Outbound.{Outbound, Puts, is_recorded}
use Rattle.outbound_model.specs.OwnNames.{number_of, kind_of, IsFor}
use Rattle.outbound_model.specs.Fates.{Brings}

-- an outbound file becomes an own file, under a number that no take has or had
pub record Moves (path own bytes : List ℕ) (old new : Outbound) : Type 0 where
  pub file : OutFile
  pub was : old.outside path ≡ Some file
  pub bytes_are : file.bytes ≡ bytes
  pub unrecorded : is_recorded (number_of own) old ≡ false
  pub apart : (name : List ℕ) → number_of name ≡ number_of own → old.takes name ≡ None
  pub gone : Puts path None old.outside new.outside
  pub here : Puts own (Some bytes) old.takes new.takes
  pub queue : new.queue ≡ old.queue
  pub recorded : new.recorded ≡ old.recorded

-- what a take brings is queued for its address and the take's number is recorded, in one durable change
pub record Queues (own bytes : List ℕ) (dest : Address) (moment : ℕ) (fates : List Fate) (old new : Outbound) : Type 0 where
  pub kind : Kind
  pub named : kind_of own ≡ Some kind
  pub addressed : IsFor dest own
  pub stands : old.takes own ≡ Some bytes
  pub first : is_recorded (number_of own) old ≡ false
  pub brings : Brings kind dest moment old.outside bytes old.queue fates new.queue
  pub recorded : new.recorded ≡ old.recorded ++ number_of own ∷ []
  pub takes : new.takes ≡ old.takes
  pub outside : new.outside ≡ old.outside

-- a take goes, whose number is recorded
pub record Drops (own : List ℕ) (old new : Outbound) : Type 0 where
  pub was : is_recorded (number_of own) old ≡ true
  pub gone : Puts own None old.takes new.takes
  pub queue : new.queue ≡ old.queue
  pub recorded : new.recorded ≡ old.recorded
  pub outside : new.outside ≡ old.outside

-- what an action leaves of an outside file
abbrev pub ActsOn : Action → List ℕ → OutFiles → OutFiles → Type 0
ActsOn Leave path old new = ⊥
ActsOn Delete path old new = Puts path None old new
ActsOn Cut path old new = (time : ℕ) × Puts path (Some (record { bytes = []; time = time })) old new

-- the source of a queued file is removed or cut, where it has the size and time that were taken
pub record Hits (number : ℕ) (old new : Outbound) : Type 0 where
  pub entry : Entry
  pub queued : Member entry old.queue
  pub is : entry.number ≡ number
  pub undone : entry.acted ≡ false
  pub was : has_key entry.key (old.outside entry.source) ≡ true
  pub acts : ActsOn entry.action entry.source old.outside new.outside
  pub queue : new.queue ≡ old.queue
  pub recorded : new.recorded ≡ old.recorded
  pub takes : new.takes ≡ old.takes

-- a queued file's action is recorded as done
pub record Acts (number : ℕ) (old new : Outbound) : Type 0 where
  pub queue : new.queue ≡ all_acted number old.queue
  pub recorded : new.recorded ≡ old.recorded
  pub takes : new.takes ≡ old.takes
  pub outside : new.outside ≡ old.outside

-- a mark is made where no file stood, and is removed only where it holds the text
pub record Marks (path text : List ℕ) (old new : Outbound) : Type 0 where
  pub time : ℕ
  pub free : old.outside path ≡ None
  pub here : Puts path (Some (record { bytes = text; time = time })) old.outside new.outside
  pub queue : new.queue ≡ old.queue
  pub recorded : new.recorded ≡ old.recorded
  pub takes : new.takes ≡ old.takes

pub record Unmarks (path text : List ℕ) (old new : Outbound) : Type 0 where
  pub own : option_map (λ (f : OutFile). f.bytes) (old.outside path) ≡ Some text
  pub gone : Puts path None old.outside new.outside
  pub queue : new.queue ≡ old.queue
  pub recorded : new.recorded ≡ old.recorded
  pub takes : new.takes ≡ old.takes

-- other programs change their files
pub record Others (old new : Outbound) : Type 0 where
  pub queue : new.queue ≡ old.queue
  pub recorded : new.recorded ≡ old.recorded
  pub takes : new.takes ≡ old.takes

pub data Step : Type 0 where
  Moved : (path own bytes : List ℕ) → Step
  Queued : (own bytes : List ℕ) (dest : Address) (moment : ℕ) (fates : List Fate) → Step
  Dropped : (own : List ℕ) → Step
  Hit : (number : ℕ) → Step
  Acted : (number : ℕ) → Step
  Marked : (path text : List ℕ) → Step
  Unmarked : (path text : List ℕ) → Step
  Changed : Step

abbrev pub Made : Step → Outbound → Outbound → Type 0
Made (Moved path own bytes) old new = Moves path own bytes old new
Made (Queued own bytes dest moment fates) old new = Queues own bytes dest moment fates old new
Made (Dropped own) old new = Drops own old new
Made (Hit number) old new = Hits number old new
Made (Acted number) old new = Acts number old new
Made (Marked path text) old new = Marks path text old new
Made (Unmarked path text) old new = Unmarks path text old new
Made Changed old new = Others old new
