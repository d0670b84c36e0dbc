-- A trial between two rounds, and what it comes to (own).
use Rattle.std.specs.Prelude.{ℕ, ◌+◌, ◌-◌, ◌^◌, min, length, count_by}
use Rattle.ledger_rec.specs.Fold.{State}
use Rattle.ledger_rec.specs.Items.{Entry}
use Rattle.node_trial.specs.declared.totals.Totals.{Totals}

-- how many files it has, their sizes together, the rounds so far, and what the records of each node's store leave
pub record TrialState : Type 0 where
  pub files : ℕ
  pub bytes : ℕ
  pub rounds : ℕ
  pub near : State
  pub far : State

-- up to the end of 32 bits
abbrev pub counted : ℕ → ℕ
counted n = min n (2 ^ 32 - 1)

abbrev pub live_in : State → ℕ
live_in s = count_by (λ (e : Entry). e.live) s.queue

-- receipts are those of both nodes, and so are the entries that are live
abbrev pub totals_of : TrialState → Totals
totals_of s =
    record { files = s.files; bytes = s.bytes; sessions = s.rounds; received = counted (length s.near.inbox + length s.far.inbox); live = counted (live_in s.near + live_in s.far) }
