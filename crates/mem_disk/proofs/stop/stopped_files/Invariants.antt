use Rattle.std.proofs.Common.{◌≡◌, ℕ, List, length, map}
use Rattle.mem_disk.specs.Kept.{settled}
use Rattle.mem_disk.specs.Holding.{under}
use Rattle.mem_disk.specs.Picks.{stopped_files, either}
use Rattle.mem_disk.proofs.stop.stopped_files.Given as goal

abbrev pub invariant-loop-entry : goal.invariant-loop-entry
invariant-loop-entry l = record {
  chosen : (q : List ℕ) → under q (stopped_files l.initial.pick l.initial.own.entries) ≡ either (under q (stopped_files l.pick l.own.entries)) (under q l.files.entries);
  calm : map (λ e. (e.0, settled e.1.written)) l.files.entries ≡ l.files.entries;
}

abbrev pub decreases-loop-entry : goal.decreases-loop-entry
decreases-loop-entry l = length l.own.entries
