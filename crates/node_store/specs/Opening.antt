-- What an opening of a store asks of its disk, what it refuses, and what it leaves (own).
use Rattle.std.specs.Prelude.{◌≡◌, ◌⊎◌, ℕ, ◌+◌, ◌-◌, ◌^◌, ◌<◌, max, min, count_by, true, List, [], length, take, map, fold, Some, None}
use Rattle.std.specs.List.{AllByRecursion}
use Rattle.disk_model.specs.World.{World}
use Rattle.ledger_file.specs.Ledger.{ledger_name, LedgerIs}
use Rattle.ledger_file.specs.Reading.{Refuses}
use Rattle.ledger_file.specs.Text.{gate_of}
use Rattle.ledger_file.specs.declared.fault.OpenFault.{OpenFault}
use Rattle.ledger_file.specs.declared.fault.OpenFault.TheVariants as L
use Rattle.ledger_rec.specs.Fold.{State, is_among}
use Rattle.ledger_rec.specs.Items.{Entry, Receipt}
use Rattle.ledger_rec.specs.Payloads.{fold_of}
use Rattle.node_model.specs.StoreStates.{Shelf}
use Rattle.node_store.specs.Books.{Books}
use Rattle.node_store.specs.Names.{in_name, take_number}
use Rattle.node_store.specs.Stored.{Memory}
use Rattle.node_store.specs.Worlds.{IsBadFile, LedgerOf, OpensAs}
use Rattle.node_store.specs.declared.opening.fault.StoreOpenFault.{StoreOpenFault}
use Rattle.node_store.specs.declared.opening.fault.StoreOpenFault.TheVariants.{Disk, LedgerBad, FileBad, NoMemory}

-- What is asked.

-- What a stop now may leave has the takes that are read, the files of other programs and the gifts. It has no file of a receipt
-- whose file isn't read, and no payload where no ledger is read.
pub record IsReady (told w : World) : Type 0 where
  pub takes : (name : List ℕ) (take : ℕ) → take_number name ≡ Some take → w.own name ≡ told.own name
  pub outside : w.outside ≡ told.outside
  pub gifts : w.gifts ≡ told.gifts
  pub given : (payloads : List (List ℕ)) (s : State) → LedgerIs payloads told → fold_of payloads ≡ Some s → AllByRecursion (λ (r : Receipt). told.own (in_name r.number) ≡ None → w.own (in_name r.number) ≡ None) s.inbox
  pub fresh : told.own ledger_name ≡ None → LedgerOf [] w

-- What is refused.

-- the fault that is told for one of the ledger's file, with a place in bytes
abbrev pub fault_of : OpenFault → StoreOpenFault
fault_of L.Disk = Disk
fault_of L.NotLedger = LedgerBad 0
fault_of (L.Version version) = LedgerBad 8
fault_of (L.Cut place) = LedgerBad place
fault_of (L.Over place) = LedgerBad place
fault_of L.NoMemory = NoMemory

-- behind so many payloads stands the first that spells no record which follows, and there its gate
pub record IsBadRecord (payloads : List (List ℕ)) (place : ℕ) : Type 0 where
  pub index : ℕ
  pub within : index < length payloads
  pub state : State
  pub folds : fold_of (take index payloads) ≡ Some state
  pub bad : fold_of (take (index + 1) payloads) ≡ None
  pub at : place ≡ gate_of (take index payloads)

-- these payloads are no ledger's for that reason
abbrev pub Misfolds : List (List ℕ) → StoreOpenFault → Type 0
Misfolds payloads Disk = ⊥
Misfolds payloads (LedgerBad place) = IsBadRecord payloads place
Misfolds payloads (FileBad name) = ⊥
Misfolds payloads NoMemory = ⊥

-- the ledger's bytes are refused with that place, or spell payloads of which one is bad
abbrev pub IsBadLedger : ℕ → World → Type 0
IsBadLedger place w =
    ((fault : OpenFault) × Refuses fault w × (fault_of fault ≡ LedgerBad place)) ⊎ ((payloads : List (List ℕ)) × LedgerIs payloads w × IsBadRecord payloads place)

-- the file of that name doesn't fit the state that the ledger leaves
pub record HasBadFile (name : List ℕ) (w : World) : Type 0 where
  pub payloads : List (List ℕ)
  pub ledger : LedgerIs payloads w
  pub state : State
  pub folds : fold_of payloads ≡ Some state
  pub bad : IsBadFile state w name

-- why a world isn't opened; a failing disk and want of memory are no reason in it
abbrev pub IsRefused : StoreOpenFault → World → Type 0
IsRefused Disk w = ⊥
IsRefused (LedgerBad place) w = IsBadLedger place w
IsRefused (FileBad name) w = HasBadFile name w
IsRefused NoMemory w = ⊥

-- What is left.

-- the file of a recorded take may be gone, and outside files, which are marks; all else that outlives a stop is the same
pub record IsTidied (old new : Shelf) : Type 0 where
  pub state : new.state ≡ old.state
  pub recorded : new.recorded ≡ old.recorded
  pub outside : (path : List ℕ) → (new.outside path ≡ old.outside path) ⊎ (new.outside path ≡ None)
  pub gifts : new.gifts ≡ old.gifts
  pub takes : (name : List ℕ) → (new.takes name ≡ old.takes name) ⊎ ((take : ℕ) × (take_number name ≡ Some take) × (is_among take old.recorded ≡ true) × (new.takes name ≡ None))

-- where the old world opens, the new one does, and finds the same but for recorded takes and marks
abbrev pub Recovers : World → World → Type 0
Recovers d c = (shelf : Shelf) → OpensAs d shelf → (after : Shelf) × OpensAs c after × IsTidied shelf after

-- the greatest of these numbers, 0 where there is none
abbrev pub greatest : List ℕ → ℕ
greatest numbers = fold max 0 numbers

-- books of a ledger that is opened: no record has a seat, no place is reserved, nothing is held
pub record IsNewBooks (b : Books) : Type 0 where
  pub folds : fold_of b.payloads ≡ Some b.folding.state
  pub reserved : b.reserved ≡ 0
  pub opened : b.opened ≡ length b.payloads
  pub seats : b.seats ≡ []
  pub holds : b.folding.holds ≡ []

-- What a store has in memory as it is opened: nothing is open or staged, no call was refused, and numbers go on behind the
-- greatest ones.
abbrev pub opened_memory : Books → List ℕ → Memory
opened_memory b given =
    record { books = b; given = given; parts = []; staged = []; drawn = greatest b.folding.state.parts; last_staged = greatest (map (λ (e : Entry). e.number) b.folding.state.queue); seat = 0; last_given = 0; fulls = 0; broken = None }

-- a number in four bytes: the greatest stands for greater ones
abbrev pub counted : ℕ → ℕ
counted n = min n (2 ^ 32 - 1)

-- how many entries wait to be sent, and how many files came in part
pub record IsRecovery (s : State) (live parts : ℕ) : Type 0 where
  pub waiting : live ≡ counted (count_by (λ (e : Entry). e.live) s.queue)
  pub marked : parts ≡ counted (length s.marks)
