-- What is told of a session: its login, its bytes, and its end (own).
use Rattle.std.specs.Prelude.{◌≡◌, ℕ, ◌-◌, ◌^◌, min, length, Option, Some, None, option_map}
use Rattle.ftn_addr.specs.Address.{Address, address}
use Rattle.node_model.specs.Calls.{asked_of}
use Rattle.session_core.specs.Ends.{End, end_text}
use Rattle.session_core.specs.Stages.{Login, Told, untold, told_along}
use Rattle.session_run.specs.declared.report.Report.{Report}
use Rattle.session_run.specs.Machine.{World, Closed}

-- a report, without where its parts lie in memory
pub record ReportText : Type 0 where
  pub session : ℕ
  pub peer : Option Address
  pub sent : ℕ
  pub received : ℕ
  pub skipped : ℕ
  pub taken : ℕ
  pub wrote : ℕ
  pub end : End

abbrev pub report_text : Report → ReportText
report_text r =
    record { session = r.session; peer = option_map address r.peer; sent = r.sent; received = r.received; skipped = r.skipped; taken = r.taken; wrote = r.wrote; end = end_text r.end }

-- 0 where no login was made
abbrev pub session_in : Option Login → ℕ
session_in None = 0
session_in (Some login) = login.number

abbrev pub peer_in : Option Login → Option Address
peer_in None = None
peer_in (Some login) = Some login.peer

-- the report tells of its session what that tells of itself
pub record Reports_told (report : ReportText) (told : Told) : Type 0 where
  pub session : report.session ≡ session_in told.login
  pub peer : report.peer ≡ peer_in told.login
  pub sent : report.sent ≡ told.tally.sent
  pub received : report.received ≡ told.tally.received
  pub skipped : report.skipped ≡ told.tally.skipped

-- the report tells what happened, once the session is closed
pub record Reports (report : ReportText) (last : World) : Type 0 where
  pub told : Reports_told report (told_along untold (asked_of last.events))
  pub taken : report.taken ≡ length last.taken
  pub wrote : report.wrote ≡ min (length last.sent) (2 ^ 64 - 1)
  pub closed : last.phase ≡ Closed report.end
