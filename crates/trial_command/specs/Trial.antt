-- What `trial` does (own).
use Rattle.std.specs.Prelude.{◌≡◌, ◌⊎◌, ◌≤◌, ℕ, [], length}
use Rattle.binkp_link.specs.Lines.{SinkState}
use Rattle.command_base.specs.Printing.{PrintsLines}
use Rattle.command_base.specs.Statuses.{Status, Done, NoMemory, OutFault}
use Rattle.node_trial.specs.Files.{bytes_in, trial_files}
use Rattle.node_trial.specs.declared.totals.Totals.{Totals}
use Rattle.trial_command.specs.Line.{totals_text}

-- What a trial of so many files may come to, whose numbers are drawn from that start on: its files and their bytes are those that are
-- drawn, and it ends behind its 64th session, or where nothing waits.
pub record MayComeTo (count start : ℕ) (t : Totals) : Type 0 where
  pub files : t.files ≡ length (trial_files count start)
  pub bytes : t.bytes ≡ bytes_in (trial_files count start)
  pub rounds : t.sessions ≤ 64
  pub ends : (t.live ≡ 0) ⊎ (t.sessions ≡ 64)

-- A trial was held, and what it came to is printed; or there was no memory for it.
pub data TrialCall (count start : ℕ) (out : SinkState) (status : Status) (out' : SinkState) : Type 0 where
  Was_held : (t : Totals) → MayComeTo count start t → PrintsLines (totals_text t) Done status out out' → TrialCall count start out status out'
  Had_no_memory : PrintsLines [] NoMemory status out out' → TrialCall count start out status out'

-- the statuses that it may have
abbrev pub IsTrialStatus : Status → Type 0
IsTrialStatus status = (status ≡ Done) ⊎ ((status ≡ NoMemory) ⊎ (status ≡ OutFault))
