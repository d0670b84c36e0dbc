-- Files that are queued together, with what brought them (own).
use Rattle.std.specs.Prelude.{ℕ, ◌&&◌, Bool, nat_lt, List, [], ◌∷◌, ◌++◌, map, Option, Some, None}
use Rattle.ledger_rec.specs.Fold.{State, new_entry, may_queue}
use Rattle.ledger_rec.specs.Record.{NewFileText, RecordText, Queue, Taken, Answered, new_file}
use Rattle.ledger_rec.specs.declared.batch.Batch.{Batch}

abbrev pub queue_records : List NewFileText → List RecordText
queue_records files = map (λ file. Queue file) files

abbrev pub taken_records : Option ℕ → List RecordText
taken_records None = []
taken_records (Some take) = Taken take ∷ []

abbrev pub answered_records : Option ℕ → List RecordText
answered_records None = []
answered_records (Some receipt) = Answered receipt ∷ []

-- a record for each file, one for the take that brought them, and one for the request that they answer
abbrev pub batch_records : Batch → List RecordText
batch_records b = queue_records (map new_file b.files.items) ++ taken_records b.take ++ answered_records b.answered

-- the file may stand behind those of the queue
abbrev pub may_follow : NewFileText → State → Bool
may_follow r s = nat_lt 0 r.number && may_queue r s.queue

-- these files stand at the end of the queue
abbrev pub all_queued : List NewFileText → State → State
all_queued files s = record s { queue = s.queue ++ map new_entry files }
