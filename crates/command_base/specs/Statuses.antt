-- The program's statuses, and their lines (own).
use Rattle.std.specs.Prelude.{ℕ, Bool, true, false, List, [], ◌∷◌, ◌++◌, codes, if◌then◌else◌}
use Rattle.std.specs.Fmt.{decimal}
use Rattle.binkp_args.specs.Escape.{escaped}
use Rattle.binkp_args.specs.declared.fault.ArgFault.{ArgFault}
use Rattle.binkp_args.specs.declared.fault.ArgFault.TheVariants as A
use Rattle.mail_conf.specs.declared.cause.ConfCause.{ConfCause}
use Rattle.mail_conf.specs.declared.cause.ConfCause.TheVariants as K
use Rattle.mail_conf.specs.declared.cause.ConfFault.{ConfFault}
use Rattle.nodelist_comp.specs.declared.fault.ListCause.{ListCause}
use Rattle.nodelist_comp.specs.declared.fault.ListCause.TheVariants as N
use Rattle.nodelist_comp.specs.declared.fault.ListTextFault.{ListTextFault}
use Rattle.nodelist_files.specs.Files.{index_name}
use Rattle.nodelist_files.specs.declared.fault.CompileFault.{CompileFault}
use Rattle.nodelist_files.specs.declared.fault.CompileFault.TheVariants as M
use Rattle.nodelist_files.specs.declared.fault.IndexFileFault.{IndexFileFault}
use Rattle.nodelist_files.specs.declared.fault.IndexFileFault.TheVariants as I
use Rattle.session_core.specs.declared.ending.Cause.{Cause}
use Rattle.session_core.specs.declared.ending.Cause.TheVariants as C
use Rattle.session_core.specs.Ends.{End}
use Rattle.session_core.specs.Ends as E
use Rattle.node_store.specs.declared.opening.fault.StoreOpenFault.{StoreOpenFault}
use Rattle.node_store.specs.declared.opening.fault.StoreOpenFault.TheVariants as F
use Rattle.command_base.specs.declared.settings.SettingsFault.{SettingsFault}
use Rattle.command_base.specs.declared.settings.SettingsFault.TheVariants as U
use Rattle.command_base.specs.declared.status.Status.{Status as StatusCode}
use Rattle.command_base.specs.declared.status.Status.TheVariants as V

-- a status, without where its parts lie in memory
pub data Status : Type 0 where
  Done : Status
  Usage : Status
  ConfBad : (fault : ConfFault) → Status
  DiskFault : (count : ℕ) → Status
  LedgerBad : (place : ℕ) → Status
  LedgerFull : Status
  LineFault : Status
  Dropped : Status
  Quiet : Status
  PeerError : (text : List ℕ) → Status
  PeerBusy : Status
  BadPassword : Status
  Broke : (cause : Cause) (frame : ℕ) → Status
  Endless : Status
  Marked : (name : List ℕ) → Status
  NotFound : Status
  OutFault : Status
  NoMemory : Status
  FileBad : (name : List ℕ) → Status
  ListBad : (fault : ListTextFault) → Status
  NoFile : Status
  TurnedAway : Status

abbrev pub status_text : StatusCode → Status
status_text V.Done = Done
status_text V.Usage = Usage
status_text (V.ConfBad fault) = ConfBad fault
status_text (V.DiskFault count) = DiskFault count
status_text (V.LedgerBad place) = LedgerBad place
status_text V.LedgerFull = LedgerFull
status_text V.LineFault = LineFault
status_text V.Dropped = Dropped
status_text V.Quiet = Quiet
status_text (V.PeerError text) = PeerError text.list
status_text V.PeerBusy = PeerBusy
status_text V.BadPassword = BadPassword
status_text (V.Broke cause frame) = Broke cause frame
status_text V.Endless = Endless
status_text (V.Marked name) = Marked name.list
status_text V.NotFound = NotFound
status_text V.OutFault = OutFault
status_text V.NoMemory = NoMemory
status_text (V.FileBad name) = FileBad name
status_text (V.ListBad fault) = ListBad fault
status_text V.NoFile = NoFile
status_text V.TurnedAway = TurnedAway

-- the exit status
abbrev pub number_of_status : Status → ℕ
number_of_status Done = 0
number_of_status Usage = 1
number_of_status (ConfBad fault) = 2
number_of_status (DiskFault count) = 3
number_of_status (LedgerBad place) = 4
number_of_status LedgerFull = 5
number_of_status LineFault = 6
number_of_status Dropped = 7
number_of_status Quiet = 8
number_of_status (PeerError text) = 9
number_of_status PeerBusy = 10
number_of_status BadPassword = 11
number_of_status (Broke cause frame) = 12
number_of_status Endless = 13
number_of_status (Marked name) = 14
number_of_status NotFound = 15
number_of_status OutFault = 16
number_of_status NoMemory = 17
number_of_status (FileBad name) = 18
number_of_status (ListBad fault) = 19
number_of_status NoFile = 20
number_of_status TurnedAway = 21

-- the status of a command whose session ended so
abbrev pub status_after : End → Status
status_after E.Finished = Done
status_after (E.PeerError text) = PeerError text
status_after E.PeerBusy = PeerBusy
status_after (E.BadPassword wanted given) = BadPassword
status_after (E.Broke cause frame) = Broke cause frame
status_after E.Dropped = Dropped
status_after E.LineFault = LineFault
status_after (E.DiskFault count) = DiskFault count
status_after E.LedgerFull = LedgerFull
status_after E.Quiet = Quiet
status_after E.Endless = Endless
status_after E.TurnedAway = TurnedAway
status_after E.NoMemory = NoMemory

-- the status of a command whose store wasn't opened, where the disk's count of faults is that
abbrev pub status_unopened : StoreOpenFault → (faults : ℕ) → Status
status_unopened F.Disk faults = DiskFault faults
status_unopened (F.LedgerBad place) faults = LedgerBad place
status_unopened (F.FileBad name) faults = FileBad name
status_unopened F.NoMemory faults = NoMemory

-- the status of a command whose settings weren't read, where the disk's count of faults is that
abbrev pub status_unset : SettingsFault → (faults : ℕ) → Status
status_unset (U.Refused fault) faults = ConfBad fault
status_unset U.Disk faults = DiskFault faults
status_unset U.NoMemory faults = NoMemory

-- the status of a command whose nodelist wasn't compiled, where the disk's count of faults is that
abbrev pub status_uncompiled : CompileFault → (faults : ℕ) → Status
status_uncompiled M.Disk faults = DiskFault faults
status_uncompiled M.NoFile faults = NoFile
status_uncompiled (M.ListBad fault) faults = ListBad fault
status_uncompiled M.NoMemory faults = NoMemory

-- the status of a command whose index wasn't read, where the disk's count of faults is that
abbrev pub status_unindexed : IndexFileFault → (faults : ℕ) → Status
status_unindexed I.Disk faults = DiskFault faults
status_unindexed I.Bad faults = FileBad index_name
status_unindexed I.NoMemory faults = NoMemory

abbrev pub status_word : Status → List ℕ
status_word Done = codes "Done"
status_word Usage = codes "Usage"
status_word (ConfBad fault) = codes "ConfBad"
status_word (DiskFault count) = codes "DiskFault"
status_word (LedgerBad place) = codes "LedgerBad"
status_word LedgerFull = codes "LedgerFull"
status_word LineFault = codes "LineFault"
status_word Dropped = codes "Dropped"
status_word Quiet = codes "Quiet"
status_word (PeerError text) = codes "PeerError"
status_word PeerBusy = codes "PeerBusy"
status_word BadPassword = codes "BadPassword"
status_word (Broke cause frame) = codes "Broke"
status_word Endless = codes "Endless"
status_word (Marked name) = codes "Marked"
status_word NotFound = codes "NotFound"
status_word OutFault = codes "OutFault"
status_word NoMemory = codes "NoMemory"
status_word (FileBad name) = codes "FileBad"
status_word (ListBad fault) = codes "ListBad"
status_word NoFile = codes "NoFile"
status_word TurnedAway = codes "TurnedAway"

-- the name of what is wrong with settings
abbrev pub conf_word : ConfCause → List ℕ
conf_word K.UnknownWord = codes "UnknownWord"
conf_word K.MissingWord = codes "MissingWord"
conf_word K.BadAddress = codes "BadAddress"
conf_word K.BadNumber = codes "BadNumber"
conf_word K.Twice = codes "Twice"
conf_word K.NoAddress = codes "NoAddress"
conf_word K.NoText = codes "NoText"
conf_word K.TooLong = codes "TooLong"
conf_word K.NoMemory = codes "NoMemory"

-- the name of what is wrong with a nodelist
abbrev pub list_word : ListCause → List ℕ
list_word N.NoZone = codes "NoZone"
list_word N.BadNumber = codes "BadNumber"
list_word N.UnknownKeyword = codes "UnknownKeyword"
list_word N.TooMany = codes "TooMany"
list_word N.NoMemory = codes "NoMemory"

abbrev pub fault_word : ArgFault → List ℕ
fault_word (A.MissingWord n) = codes "MissingWord"
fault_word (A.BadNumber n) = codes "BadNumber"
fault_word A.LongName = codes "LongName"
fault_word A.TooLarge = codes "TooLarge"
fault_word A.PastEnd = codes "PastEnd"
fault_word A.NoAddress = codes "NoAddress"
fault_word A.NoMemory = codes "NoMemory"

-- the cause's name; of an argument that can't be read, the name of its fault
abbrev pub cause_word : Cause → List ℕ
cause_word (C.Arg fault) = fault_word fault
cause_word C.OutOfTurn = codes "OutOfTurn"
cause_word C.NotCalled = codes "NotCalled"
cause_word C.Late = codes "Late"
cause_word C.TooMuch = codes "TooMuch"

-- what follows the word, each behind a space: the line and the cause; the count; the place; the name or the text, escaped; the
-- cause and the frame's number
abbrev pub status_rest : Status → List ℕ
status_rest (ConfBad fault) = 32 ∷ decimal fault.line ++ 32 ∷ conf_word fault.cause
status_rest (ListBad fault) = 32 ∷ decimal fault.line ++ 32 ∷ list_word fault.cause
status_rest (DiskFault count) = 32 ∷ decimal count
status_rest (LedgerBad place) = 32 ∷ decimal place
status_rest (FileBad name) = 32 ∷ escaped name
status_rest (Marked name) = 32 ∷ escaped name
status_rest (PeerError text) = 32 ∷ escaped text
status_rest (Broke cause frame) = 32 ∷ cause_word cause ++ 32 ∷ decimal frame
status_rest status = []

-- Done has no line, and where a line can't be put there is none.
abbrev pub is_told : Status → Bool
is_told Done = false
is_told OutFault = false
is_told status = true

-- `status N WORD ..` and LF
abbrev pub status_line : Status → List ℕ
status_line status =
    if is_told status
    then codes "status " ++ decimal (number_of_status status) ++ 32 ∷ status_word status ++ status_rest status ++ 10 ∷ []
    else []
