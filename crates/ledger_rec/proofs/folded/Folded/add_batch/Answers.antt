use Rattle.std.proofs.Common.{◌++◌, map, ◌∙◌}
use Rattle.ledger_rec.proofs.FoldAll.{front_follows, rest_follows, fold_joined}
use Rattle.ledger_rec.specs.Batch.{answered_records, queue_records, taken_records}
use Rattle.ledger_rec.specs.Record.{new_file}
use Rattle.ledger_rec.proofs.folded.Folded.add_batch.Goals as goal

pub put_files-requires-clause-follows : goal.put_files-requires-clause-follows
put_files-requires-clause-follows c =
    let s = c.args.self.now.state in
    let b = c.args.batch in
    let files = queue_records (map new_file b.files.items) in
    front_follows s files (taken_records b.take) (front_follows s (files ++ taken_records b.take) (answered_records b.answered) c.requires.follows)

pub put_take-requires-clause-follows : goal.put_take-requires-clause-follows
put_take-requires-clause-follows c =
    let s = c.args.self.now.state in
    let b = c.args.batch in
    let files = queue_records (map new_file b.files.items) in
    rest_follows s c.put_files.new.self.state files (taken_records b.take) c.put_files.ensures.step (front_follows s (files ++ taken_records b.take) (answered_records b.answered) c.requires.follows)

pub put_answer-requires-clause-follows : goal.put_answer-requires-clause-follows
put_answer-requires-clause-follows c =
    let s = c.args.self.now.state in
    let b = c.args.batch in
    let files = queue_records (map new_file b.files.items) in
    let t = c.put_take.new.self.state in
    rest_follows s t (files ++ taken_records b.take) (answered_records b.answered) (fold_joined s c.put_files.new.self.state files (taken_records b.take) c.put_files.ensures.step ∙ c.put_take.ensures.step) c.requires.follows

pub returns-clause-step : goal.returns-clause-step
returns-clause-step c =
    let s = c.args.self.now.state in
    let b = c.args.batch in
    let files = queue_records (map new_file b.files.items) in
    let t = c.put_take.new.self.state in
    fold_joined s t (files ++ taken_records b.take) (answered_records b.answered) (fold_joined s c.put_files.new.self.state files (taken_records b.take) c.put_files.ensures.step ∙ c.put_take.ensures.step) ∙ c.put_answer.ensures.step
