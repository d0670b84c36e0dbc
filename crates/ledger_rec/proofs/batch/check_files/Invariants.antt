use Rattle.std.proofs.Common.{◌≡◌, List, map, take, Some}
use Rattle.ledger_rec.specs.Batch.{all_queued, queue_records}
use Rattle.ledger_rec.specs.Fold.{fold_all}
use Rattle.ledger_rec.specs.Lists.{state_of}
use Rattle.ledger_rec.specs.Planned.{Plans}
use Rattle.ledger_rec.specs.Record.{NewFileText, new_file}
use Rattle.ledger_rec.proofs.batch.check_files.Given as goal

abbrev pub invariant-loop-file : goal.invariant-loop-file
invariant-loop-file l =
    let so_far : List NewFileText = map new_file (take l.file-index l.files) in
    record {
      folded : fold_all (state_of l.lists) (queue_records so_far) ≡ Some (all_queued so_far (state_of l.lists));
      plans : Plans l.planned so_far (state_of l.lists);
    }
