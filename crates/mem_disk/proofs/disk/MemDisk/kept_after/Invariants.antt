use Rattle.std.proofs.Common.{◌≡◌, drop}
use Rattle.mem_disk.specs.Holding.{first_calls, replay}
use Rattle.mem_disk.proofs.disk.MemDisk.kept_after.Given as goal

abbrev pub invariant-loop-call : goal.invariant-loop-call
invariant-loop-call l = replay l.kept (first_calls l.left (drop l.call-index l.self.log.items)) ≡ replay l.self.first (first_calls l.after l.self.log.items)
