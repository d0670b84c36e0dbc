use Rattle.std.proofs.Common.{◌≡◌, ◌+◌, length, drop}
use Rattle.mem_disk.specs.Holding.{first_calls}
use Rattle.mem_disk.proofs.disk.MemDisk.place_after.Given as goal

abbrev pub invariant-loop-place : goal.invariant-loop-place
invariant-loop-place l = l.place + length (first_calls l.left (drop l.place l.self.log.items)) ≡ length (first_calls l.after l.self.log.items)
