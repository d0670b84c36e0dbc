-- A take that stands in a store over a disk in memory (own).
use Rattle.std.specs.Prelude.{◌≡◌, true, Some, IsSome}
use Rattle.ledger_rec.specs.Fold.{is_among}
use Rattle.mem_disk.specs.Holding.{shown}
use Rattle.mem_disk.specs.MemoryDisk.{mem_images, mem_moment}
use Rattle.mem_disk.specs.declared.disk.MemDisk.{MemDisk}
use Rattle.node_model.specs.StoreStates.{IfTold, StoreState}
use Rattle.node_store.specs.Names.{take_number}
use Rattle.node_store.specs.Stored.{Holding, stand_of}
use Rattle.node_store.specs.declared.takes.TakeName.{TakeName}

-- what such a store tells
abbrev pub told_state : Holding MemDisk → StoreState
told_state s = (stand_of true (λ (d : MemDisk). shown d.held) (λ (d : MemDisk). d.faults) mem_moment mem_images s).state

-- it has the number of its own name, is told as recorded exactly where that number is, and its file stands
pub record IsOneLeft (t : TakeName) (s : StoreState) : Type 0 where
  pub named : take_number t.own ≡ Some t.take
  pub noted : t.recorded ≡ is_among t.take s.recorded
  pub stands : IfTold s.content (λ a. IsSome (a.takes t.own))
