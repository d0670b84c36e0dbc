-- Calls that only ask the disk of a store: those of its yard that it passes on, and reads of own files (own).
use Rattle.std.specs.Prelude.{◌≡◌, ℕ, ◌≤◌, Bool, true, List, Option, Some, Result, Ok, Err, length, option_map}
use Rattle.ftn_addr.specs.Counts.{Increased}
use Rattle.ftn_addr.specs.Moments.{MomentsGrew}
use Rattle.disk_model.specs.declared.answers.OutStat.{OutStat}
use Rattle.disk_model.specs.Folders.{ListsFolder}
use Rattle.disk_model.specs.World as W
use Rattle.node_model.specs.declared.store.StoreFault.{StoreFault}
use Rattle.node_model.specs.declared.store.StoreFault.TheVariants.{Disk, Read, Full, NoMemory}
use Rattle.node_model.specs.Outside.{OutFile, OutFiles}
use Rattle.node_model.specs.StoreStates.{Shelf, StoreState, StoreStand}
use Rattle.node_model.specs.Stores.{OpensShelf, IsShelf}
use Rattle.node_store.specs.Worlds.{out_file_of}

-- the size and the time of an outside file
abbrev pub stat_of : OutFile → OutStat
stat_of file = record { size = length file.bytes; time = file.time }

-- the names of the files and folders that stand directly in a folder, where these are the outside files
pub record ListsOutside (folder : List ℕ) (outside : OutFiles) (names : List (List ℕ)) : Type 0 where
  pub files : List ℕ → Option W.OutFile
  pub are : outside ≡ (λ path. option_map out_file_of (files path))
  pub lists : ListsFolder folder files names

-- the disk failed: the count rose, the store is broken with that count, and all else is the same
pub record FailsDisk (old new : StoreState) : Type 0 where
  pub rose : Increased old.counts.faults new.counts.faults
  pub same : new ≡ record old { counts = record old.counts { faults = new.counts.faults; broken = Some new.counts.faults } }

-- After an answer nothing changed, nor where there was no memory; only a call that takes memory finds none.
abbrev pub AskedSo : {T : Type 0} → Bool → Result T StoreFault → StoreState → StoreState → Type 0
AskedSo memory (Ok answer) old new = new ≡ old
AskedSo memory (Err Disk) old new = FailsDisk old new
AskedSo memory (Err Read) old new = ⊥
AskedSo memory (Err Full) old new = ⊥
AskedSo memory (Err NoMemory) old new = (memory ≡ true) × (new ≡ old)

-- A call that only asks, and takes memory or none: no image of an earlier moment is new, and at each moment since the call
-- began, whatever it answered, a stop leaves what was kept before it.
pub record Asks {T : Type 0} (memory : Bool) (result : Result T StoreFault) (old new : StoreStand) : Type 0 where
  pub made : AskedSo memory result old.state new.state
  pub grew : MomentsGrew old.moment old.images new.moment new.images
  pub since : (k : ℕ) (d : Option Shelf) → old.moment ≤ k → k ≤ new.moment → new.images k d → OpensShelf (IsShelf old.state.content) d
