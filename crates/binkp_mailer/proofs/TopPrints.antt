-- No call has the status of a failing put before its lines are put.
use Rattle.std.proofs.Common.{ℕ}
use Rattle.session_core.specs.Ends.{End}
use Rattle.session_core.specs.Ends as E
use Rattle.binkp_mailer.specs.declared.report.Outcome.{Outcome}
use Rattle.binkp_mailer.specs.declared.report.Outcome.TheVariants as O
use Rattle.session_core.specs.Ends.{end_text}
use Rattle.command_base.specs.declared.settings.SettingsFault.{SettingsFault}
use Rattle.command_base.specs.declared.settings.SettingsFault.TheVariants as U
use Rattle.command_base.proofs.Printed.{NotOut}
use Rattle.binkp_mailer.specs.Reports.{had_of}
use Rattle.nodelist_files.specs.declared.fault.IndexFileFault.{IndexFileFault}
use Rattle.nodelist_files.specs.declared.fault.IndexFileFault.TheVariants as I
use Rattle.node_store.specs.declared.opening.fault.StoreOpenFault.{StoreOpenFault}
use Rattle.node_store.specs.declared.opening.fault.StoreOpenFault.TheVariants as F
use Rattle.command_base.specs.Statuses.{status_after, status_unindexed, status_unopened, status_unset}

after_not_out : (end : End) → NotOut (status_after end)
after_not_out E.Finished = tt
after_not_out (E.PeerError text) = tt
after_not_out E.PeerBusy = tt
after_not_out (E.BadPassword wanted given) = tt
after_not_out (E.Broke cause n) = tt
after_not_out E.Dropped = tt
after_not_out E.LineFault = tt
after_not_out (E.DiskFault count) = tt
after_not_out E.LedgerFull = tt
after_not_out E.Quiet = tt
after_not_out E.Endless = tt
after_not_out E.TurnedAway = tt
after_not_out E.NoMemory = tt

unopened_not_out : (fault : StoreOpenFault) (faults : ℕ) → NotOut (status_unopened fault faults)
unopened_not_out F.Disk faults = tt
unopened_not_out (F.LedgerBad place) faults = tt
unopened_not_out (F.FileBad name) faults = tt
unopened_not_out F.NoMemory faults = tt

unset_not_out : (fault : SettingsFault) (faults : ℕ) → NotOut (status_unset fault faults)
unset_not_out (U.Refused fault) faults = tt
unset_not_out U.Disk faults = tt
unset_not_out U.NoMemory faults = tt

unindexed_not_out : (fault : IndexFileFault) (faults : ℕ) → NotOut (status_unindexed fault faults)
unindexed_not_out I.Disk faults = tt
unindexed_not_out I.Bad faults = tt
unindexed_not_out I.NoMemory faults = tt

pub had_not_out : (outcome : Outcome) → NotOut (had_of outcome)
had_not_out O.Usage = tt
had_not_out O.NoMemory = tt
had_not_out O.NotFound = tt
had_not_out (O.Unset fault faults) = unset_not_out fault faults
had_not_out (O.Unindexed fault faults) = unindexed_not_out fault faults
had_not_out (O.Unopened fault faults) = unopened_not_out fault faults
had_not_out (O.Marked name) = tt
had_not_out O.NoCaller = tt
had_not_out O.NoLine = tt
had_not_out (O.Unmarked faults) = tt
had_not_out (O.Held report) = after_not_out (end_text report.end)
had_not_out (O.Ungiven report faults) = tt
