-- Which calls are Done (own).
use Rattle.std.specs.Prelude.{◌≡◌, ◌⊎◌, ℕ, Option, Some, None}
use Rattle.ftn_addr.specs.Counts.{next_count}
use Rattle.binkp_link.specs.Lines.{SinkState}
use Rattle.session_core.specs.Ends as E
use Rattle.session_run.specs.Reports.{ReportText}
use Rattle.command_base.specs.Statuses.{Status, Done, DiskFault, NoMemory, OutFault}

-- a session was held, and it finished
abbrev pub HasFinished : Option ReportText → Type 0
HasFinished None = ⊥
HasFinished (Some report) = report.end ≡ E.Finished

-- A call is Done only where its session finished. Where it did, the call is Done; or the disk failed behind the session; or there was no
-- memory for its lines; or their put failed, which the sink has counted.
pub record IsDoneBehind (told : Option ReportText) (status : Status) (out out' : SinkState) : Type 0 where
  pub only : status ≡ Done → HasFinished told
  pub always : HasFinished told → (status ≡ Done) ⊎ (((count : ℕ) × (status ≡ DiskFault count)) ⊎ ((status ≡ NoMemory) ⊎ ((status ≡ OutFault) × (out'.faults ≡ next_count out.faults))))
