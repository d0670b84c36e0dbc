-- The lists of the code, without where they lie in memory.
use Rattle.std.specs.Prelude.{◌≡◌, ℕ, ◌≤◌, ◌+◌, map, vec_len, vec_capacity, Option, Some, None, Result, Ok, Err}
use Rattle.ledger_rec.specs.Fold.{State}
use Rattle.ledger_rec.specs.Items.{entry, receipt, refusal, part_mark}
use Rattle.ledger_rec.specs.declared.fault.FoldFault.{FoldFault}
use Rattle.ledger_rec.specs.declared.fault.FoldFault.TheVariants.{BadFold, NoMemory}
use Rattle.ledger_rec.specs.declared.lists.Lists.{Lists}

abbrev pub state_of : Lists → State
state_of l =
    record { queue = map entry l.queue.items; inbox = map receipt l.inbox.items; refused = map refusal l.refused.items; marks = map part_mark l.marks.items; parts = l.parts.items; takes = l.takes.items }

-- n more records fit without new memory, whatever their kinds
pub record HasRoom (n : ℕ) (l : Lists) : Type 0 where
  pub queue : vec_len l.queue + n ≤ vec_capacity l.queue
  pub inbox : vec_len l.inbox + n ≤ vec_capacity l.inbox
  pub refused : vec_len l.refused + n ≤ vec_capacity l.refused
  pub marks : vec_len l.marks + n ≤ vec_capacity l.marks
  pub parts : vec_len l.parts + n ≤ vec_capacity l.parts
  pub takes : vec_len l.takes + n ≤ vec_capacity l.takes

-- the answer is the step's, and nothing changes where it is an error
abbrev pub Steps : {X : Type 0} → Result (Unit {0}) FoldFault → Option X → X → X → Type 0
Steps (Ok done) step old new = step ≡ Some new
Steps (Err BadFold) step old new = (step ≡ None) × (new ≡ old)
Steps (Err NoMemory) step old new = new ≡ old
