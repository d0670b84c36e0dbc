-- What an opening has found of the own files and made durable, while nothing changed (own).
use Rattle.std.specs.Prelude.{◌≡◌, ℕ, ◌≤◌, true, List, [], ◌∷◌, Some, Result, OnOk, IfErr, if◌then◌else◌}
use Rattle.std.specs.List.{AllByRecursion}
use Rattle.ftn_addr.specs.Counts.{Increased}
use Rattle.disk_model.specs.Changes.{Every, Same, SameAt}
use Rattle.disk_model.specs.Moments.{Now, Leaves}
use Rattle.disk_model.specs.World.{World}
use Rattle.ledger_rec.specs.Fold.{State}
use Rattle.ledger_rec.specs.Items.{Entry, Receipt, PartMark}
use Rattle.node_model.specs.Lists.{Member}
use Rattle.node_store.specs.Names.{in_name, out_name}
use Rattle.node_store.specs.Stored.{has_receipt}
use Rattle.node_store.specs.Worlds.{HasLength, HasFront, HasNoOther, is_absent}
use Rattle.node_store.specs.declared.opening.fault.StoreOpenFault.{StoreOpenFault}
use Rattle.node_store.specs.declared.opening.fault.StoreOpenFault.TheVariants.{Disk, LedgerBad, FileBad, NoMemory}

-- nothing was read or left since that wasn't before
pub record IsUntouched {D : Type 0} (files : D → World → Type 0) (moment : D → ℕ) (images : D → ℕ → World → Type 0) (old new : D) : Type 0 where
  pub read : Every (files new) (files old)
  pub stop : Leaves moment images Same old new

-- each world that is read stands so to each that a stop now may leave
pub record Beside {D : Type 0} (files : D → World → Type 0) (moment : D → ℕ) (images : D → ℕ → World → Type 0) (P : World → World → Type 0) (disk : D) : Type 0 where
  pub both : (f c : World) → files disk f → Now moment images disk c → P f c

-- the count of faults rose exactly where the disk is the reason
pub record HasReason {T : Type 0} (before now : ℕ) (result : Result T StoreOpenFault) : Type 0 where
  pub later : before ≤ now
  pub calm : OnOk result (now ≡ before)
  pub failed : IfErr result (λ fault. fault ≡ Disk → Increased before now)

-- the name of the file that doesn't fit, where that is the fault
abbrev pub Finds : (List ℕ → Type 0) → StoreOpenFault → Type 0
Finds bad Disk = Unit {0}
Finds bad (LedgerBad place) = ⊥
Finds bad (FileBad name) = bad name
Finds bad NoMemory = ⊥

-- The file of a live entry has its length, that of a mark at least that of the mark, and that of a receipt, where it stands,
-- that of its key. A stop now leaves what is read of each.

abbrev pub IsKeptEntry : Entry → World → World → Type 0
IsKeptEntry e f c = e.live ≡ true → HasLength (out_name e.number) e.key.size f × SameAt (out_name e.number) f c

abbrev pub IsKeptMark : PartMark → World → World → Type 0
IsKeptMark m f c = HasFront (in_name m.number) m.len f × SameAt (in_name m.number) f c

abbrev pub IsKeptReceipt : Receipt → World → World → Type 0
IsKeptReceipt r f c = HasNoOther (in_name r.number) r.key.size f × ((bytes : List ℕ) → f.own (in_name r.number) ≡ Some bytes → SameAt (in_name r.number) f c)

-- the receipts whose files don't stand were given
abbrev pub given_in : World → List Receipt → List ℕ
given_in w [] = []
given_in w (r ∷ rs) = if is_absent (w.own (in_name r.number)) then r.number ∷ given_in w rs else given_in w rs

-- these numbers are receipts of these files
abbrev pub AreReceipts : List ℕ → List Receipt → Type 0
AreReceipts numbers rs = AllByRecursion (λ n. has_receipt n rs ≡ true) numbers

-- One of these has a file of that name that doesn't fit, in each world that is read.

pub record HasBadEntry (read : World → Type 0) (es : List Entry) (name : List ℕ) : Type 0 where
  pub e : Entry
  pub there : Member e es
  pub live : e.live ≡ true
  pub named : name ≡ out_name e.number
  pub bad : Every read (λ f. HasLength name e.key.size f → ⊥)

pub record HasBadMark (read : World → Type 0) (ms : List PartMark) (name : List ℕ) : Type 0 where
  pub m : PartMark
  pub there : Member m ms
  pub named : name ≡ in_name m.number
  pub bad : Every read (λ f. HasFront name m.len f → ⊥)

pub record HasBadReceipt (read : World → Type 0) (rs : List Receipt) (name : List ℕ) : Type 0 where
  pub r : Receipt
  pub there : Member r rs
  pub named : name ≡ in_name r.number
  pub bad : Every read (λ f. HasNoOther name r.key.size f → ⊥)

-- all files of a fold
pub record IsKeptState (s : State) (f c : World) : Type 0 where
  pub queue : AllByRecursion (λ (e : Entry). IsKeptEntry e f c) s.queue
  pub marks : AllByRecursion (λ (m : PartMark). IsKeptMark m f c) s.marks
  pub inbox : AllByRecursion (λ (r : Receipt). IsKeptReceipt r f c) s.inbox
