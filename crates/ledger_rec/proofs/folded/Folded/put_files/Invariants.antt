use Rattle.std.proofs.Common.{◌≡◌, ◌+◌, ◌≤◌, length, map}
use Rattle.std.specs.Vec.Iter.{into_iter_items}
use Rattle.ledger_rec.specs.Batch.{queue_records}
use Rattle.ledger_rec.specs.Fold.{fold_all}
use Rattle.ledger_rec.specs.Record.{new_file}
use Rattle.ledger_rec.proofs.folded.Folded.put_files.Given as goal

abbrev pub invariant-loop-file : goal.invariant-loop-file
invariant-loop-file l =
    (goal.iterator-loop-file).can_next l.file-iterator × (goal.iterator-loop-file).is_finite l.file-iterator
    × (fold_all l.self.state (queue_records (map new_file (into_iter_items l.file-iterator))) ≡ fold_all l.initial.self.state (queue_records (map new_file l.fn.files.items)))
    × (l.self.holds ≡ l.initial.self.holds)
    × (l.initial.self.room + length (into_iter_items l.file-iterator) ≤ l.self.room + length l.fn.files.items)
