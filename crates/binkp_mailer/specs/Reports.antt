-- What came of a call, and what it prints (own).
use Rattle.std.specs.Prelude.{ℕ, List, [], Option, Some, None, IsSome}
use Rattle.binkp_link.specs.Lines.{SinkState}
use Rattle.session_lines.specs.Lines.{session_line}
use Rattle.session_run.specs.Reports.{ReportText, report_text}
use Rattle.binkp_mailer.specs.declared.report.Outcome.{Outcome}
use Rattle.binkp_mailer.specs.declared.report.Outcome.TheVariants as O
use Rattle.command_base.specs.Printing.{PrintsLines}
use Rattle.command_base.specs.Statuses.{Status, DiskFault, Dropped, LineFault, Marked, Usage, NotFound, NoMemory, status_after, status_unindexed, status_unopened, status_unset}

-- the line of the session, where one was held
abbrev pub lines_told : Option ReportText → List ℕ
lines_told None = []
lines_told (Some report) = session_line report

-- A call puts the line of the session, where one was held, and that of its status.
abbrev pub Prints : Option ReportText → (status result : Status) → SinkState → SinkState → Type 0
Prints report status result old new = PrintsLines (lines_told report) status result old new

-- the report of the session that was held, where one was
abbrev pub told_of : Outcome → Option ReportText
told_of O.Usage = None
told_of O.NoMemory = None
told_of O.NotFound = None
told_of (O.Unindexed fault faults) = None
told_of (O.Unset fault faults) = None
told_of (O.Unopened fault faults) = None
told_of (O.Marked name) = None
told_of O.NoCaller = None
told_of O.NoLine = None
told_of (O.Unmarked faults) = None
told_of (O.Held report) = Some (report_text report)
told_of (O.Ungiven report faults) = Some (report_text report)

-- behind a session the disk failed only where its store is broken
abbrev pub FailedIsBroken : Outcome → Option ℕ → Type 0
FailedIsBroken (O.Ungiven report faults) broken = IsSome broken
FailedIsBroken outcome broken = Unit {0}

-- the status that a call has, before its lines are put
abbrev pub had_of : Outcome → Status
had_of O.Usage = Usage
had_of O.NoMemory = NoMemory
had_of O.NotFound = NotFound
had_of (O.Unindexed fault faults) = status_unindexed fault faults
had_of (O.Unset fault faults) = status_unset fault faults
had_of (O.Unopened fault faults) = status_unopened fault faults
had_of (O.Marked name) = Marked name.list
had_of O.NoCaller = Dropped
had_of O.NoLine = LineFault
had_of (O.Unmarked faults) = DiskFault faults
had_of (O.Held report) = status_after (report_text report).end
had_of (O.Ungiven report faults) = DiskFault faults
