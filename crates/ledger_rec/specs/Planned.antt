-- What is told of files that are to be queued (own).
use Rattle.std.specs.Prelude.{◌≡◌, ℕ, ◌||◌, nat_lt, List, map}
use Rattle.file_index.specs.Filed.{Files}
use Rattle.ledger_rec.specs.Batch.{all_queued}
use Rattle.ledger_rec.specs.Fold.{State, new_entry}
use Rattle.ledger_rec.specs.Indexed.{is_queued, are_below}
use Rattle.ledger_rec.specs.Record.{NewFileText}
use Rattle.ledger_rec.specs.declared.planned.Planned.{Planned}

-- the index has these files, and the greatest number of the queue with them is told
pub record Plans (p : Planned) (those : List NewFileText) (s : State) : Type 0 where
  pub files : Files p.files (λ dest key. is_queued dest key (map new_entry those))
  pub below : (n : ℕ) → are_below n (all_queued those s).queue ≡ (p.none || nat_lt p.greatest n)
