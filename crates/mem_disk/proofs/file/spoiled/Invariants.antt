use Rattle.std.proofs.Common.{◌≡◌, take, map}
use Rattle.mem_disk.specs.Kept.{spoiled, spoilt_by}
use Rattle.mem_disk.specs.Undo.{range_of}
use Rattle.mem_disk.proofs.file.spoiled.Given as goal

abbrev pub invariant-loop-place : goal.invariant-loop-place
invariant-loop-place l = l.bytes.items ≡ spoiled (spoilt_by l.digit) (map range_of l.changes) 0 (take l.place l.file)
