use Rattle.std.proofs.Common.{◌≡◌, ◌≤◌, length, take}
use Rattle.mem_disk.specs.Undo.{all_taken_back}
use Rattle.mem_disk.proofs.file.all_taken_back.Given as goal

abbrev pub invariant-loop-left : goal.invariant-loop-left
invariant-loop-left l = record {
  within : l.left ≤ length l.changes;
  same : all_taken_back (take l.left l.changes) l.bytes.items ≡ all_taken_back l.changes l.initial.bytes.items;
}

abbrev pub decreases-loop-left : goal.decreases-loop-left
decreases-loop-left l = l.left
