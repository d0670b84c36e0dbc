-- A disk in memory over which a store may be opened (own).
use Rattle.disk_model.specs.Changes.{Every}
use Rattle.disk_model.specs.Moments.{Now}
use Rattle.mem_disk.specs.Holding.{shown}
use Rattle.mem_disk.specs.MemoryDisk.{mem_images, mem_moment}
use Rattle.mem_disk.specs.declared.disk.MemDisk.{MemDisk}
use Rattle.node_store.specs.Opening.{IsReady}

-- what a stop now may leave of it is ready for what is read
abbrev pub IsReadyDisk : MemDisk → Type 0
IsReadyDisk d = Every (Now mem_moment mem_images d) (IsReady (shown d.held))
