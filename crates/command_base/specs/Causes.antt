-- What a status tells of the disk (own).
use Rattle.std.specs.Prelude.{◌≡◌, ◌⊎◌, ℕ, Bool, true, Err}
use Rattle.disk_model.specs.World.{World}
use Rattle.ftn_addr.specs.Counts.{Increased, CountGrew}
use Rattle.node_store.specs.Opening.{IsBadLedger, HasBadFile}
use Rattle.nodelist_files.specs.Files.{index_name}
use Rattle.nodelist_files.specs.IndexFile.{index_at}
use Rattle.nodelist_files.specs.declared.fault.IndexFileFault.TheVariants.{Bad}
use Rattle.command_base.specs.Settings.{settings_in}
use Rattle.command_base.specs.Statuses as S
use Rattle.command_base.specs.Statuses.{Status}

-- the index of a world's nodelist isn't in its grammar
abbrev pub IsBadIndex : World → Type 0
IsBadIndex w = index_at (w.own index_name) ≡ Err Bad

-- the index couldn't be read, since the disk failed or there was no memory
abbrev pub NoIndex : {D : Type 0} → (faults : D → ℕ) → D → D → Status → Type 0
NoIndex faults disk disk' had = ((had ≡ S.DiskFault (faults disk')) × Increased (faults disk) (faults disk')) ⊎ (had ≡ S.NoMemory)

module _ {D : Type 0} (tells : Bool) (content : D → World) (faults : D → ℕ) where
  -- What a status tells of the disk. The number of a DiskFault is a count to which its faults rose; ConfBad, LedgerBad and
  -- FileBad come only where the settings, the world that it reads, or the index of its nodelist are refused so.
  abbrev pub DiskCause : Status → D → D → Type 0
  DiskCause (S.DiskFault count) disk disk' = Increased (faults disk) count × CountGrew count (faults disk')
  DiskCause (S.ConfBad fault) disk disk' = tells ≡ true → settings_in (content disk) ≡ Err fault
  DiskCause (S.LedgerBad place) disk disk' = tells ≡ true → IsBadLedger place (content disk)
  DiskCause (S.FileBad name) disk disk' = tells ≡ true → HasBadFile name (content disk) ⊎ ((name ≡ index_name) × IsBadIndex (content disk))
  DiskCause status disk disk' = Unit {0}
