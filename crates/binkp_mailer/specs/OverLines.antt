-- What a call over an opened store does with the lines: it answers who calls next, or dials a host under the call mark of its node
-- (own; FTS-5005 for the mark).
use Rattle.std.specs.Prelude.{◌≡◌, ℕ, Bool, List, [], codes, Option, Some, None, Result, Ok, Err, IsSome}
use Rattle.ftn_addr.specs.Address.{Address}
use Rattle.bso_outbound.specs.Names.{path_ending}
use Rattle.bso_outbound.specs.Paths.{last_part}
use Rattle.busy_marks.specs.Marking.{MarksInPart}
use Rattle.busy_marks.specs.Text.{mark_text}
use Rattle.disk_model.specs.Moments.{Leaves}
use Rattle.disk_model.specs.World.{World}
use Rattle.disk_model.specs.declared.answers.Marking.TheVariants.{Made, Exists}
use Rattle.binkp_link.specs.Lines.{LineState}
use Rattle.binkp_link.specs.LineSources.{Dialling, Gave, IsDialled, IsNext, LinesState, LinesTold, dialling, handed_back}
use Rattle.binkp_link.specs.declared.line_source.Dialled.TheVariants as A
use Rattle.binkp_link.specs.declared.line_source.NextLine.TheVariants as N
use Rattle.mail_conf.specs.Conf.{ConfText}
use Rattle.node_model.specs.Receipts.{HasOnce, SettledStays}
use Rattle.node_model.specs.Stores.{StoreStand, IfTold}
use Rattle.node_model.specs.declared.store.StoreFault.{StoreFault}
use Rattle.node_store.specs.Names.{mark_name}
use Rattle.node_store.specs.OutboundMarks.{mark_gone, marked_so}
use Rattle.node_store.specs.Stored.{Holding, stand_of}
use Rattle.node_store.specs.Taking.{Takes}
use Rattle.node_store.specs.declared.names.MarkKind.TheVariants.{Call}
use Rattle.session_auth.specs.Sides.{Side, Answers, Calls}
use Rattle.session_core.specs.Stages.{home_of}
use Rattle.session_run.specs.Reports.{ReportText}
use Rattle.command_base.specs.Statuses as S
use Rattle.command_base.specs.Statuses.{Status}
use Rattle.binkp_mailer.specs.Inbound.{status_behind}
use Rattle.binkp_mailer.specs.TopCall.{Given, IsCall, StatusCause, OnceAfter, StaysTold, IfTells}

-- A call over a line and a store, with the cause of its status. What was received stays so, each sender and key once, at each stop
-- too.
pub record Serves (side : Side) (given : Given) (line : LineState) (store : StoreStand) (told : Option ReportText) (had : Status) (line' : LineState) (store' : StoreStand) : Type 0 where
  pub call : IsCall side given line store told had line' store'
  pub cause : StatusCause given.conf.session_limit had line line' store.state.counts store'.state.counts
  pub once : OnceAfter store.state.content store'.state.content
  pub stays : StaysTold store.state.content store'.state.content
  pub stop_once : IfTells store store' (λ old. HasOnce)
  pub stop_stays : IfTells store store' SettledStays

-- a call was made over a line and the store, and the line was handed back at its place, the first
pub record HandsBack (side : Side) (given : Given) (line : LineState) (lines : LinesState) (store : StoreStand) (told : Option ReportText) (had : Status) (lines' : LinesState) (store' : StoreStand) : Type 0 where
  pub line' : LineState
  pub serves : Serves side given line store told had line' store'
  pub back : lines' ≡ handed_back 0 line' lines

-- the same over an unused line that was given
pub record Holds_over (side : Side) (given : Given) (lines : LinesState) (store : StoreStand) (told : Option ReportText) (had : Status) (lines' : LinesState) (store' : StoreStand) : Type 0 where
  pub line : LineState
  pub mid : LinesState
  pub gave : Gave line lines mid
  pub holds : HandsBack side given line mid store told had lines' store'

-- a source of lines that gave none yet
abbrev pub NoneHanded : Option LinesTold → Type 0
NoneHanded None = Unit {0}
NoneHanded (Some told) = told.handed ≡ []

pub record IsFresh (lines : LinesState) : Type 0 where
  pub given : lines.counts.given ≡ 0
  pub told : NoneHanded lines.told

abbrev self : LineState → LineState
self line = line

-- Nobody came: that is a call that was dropped. Where waiting failed the line is at fault.
pub data NoneCame (had : Status) (lines lines' : LinesState) : Type 0 where
  Nobody_yet : had ≡ S.Dropped → IsNext self N.Nothing lines lines' → NoneCame had lines lines'
  Nobody_more : had ≡ S.Dropped → IsNext self N.Stop lines lines' → NoneCame had lines lines'
  Not_heard : had ≡ S.LineFault → IsNext self N.Failed lines lines' → NoneCame had lines lines'

-- the path of a node's call mark, and what it says
abbrev pub call_mark : ConfText → Address → List ℕ
call_mark conf peer = path_ending peer (codes ".csy") conf.base conf.zone

abbrev pub call_text : ConfText → List ℕ
call_text conf = mark_text (home_of conf.addresses)

module _ {D : Type 0} (tells : Bool) (content : D → World) (faults : D → ℕ) (moment : D → ℕ) (images : D → ℕ → World → Type 0) where
  -- who calls next is answered: `next` is asked once
  pub data Answers_next (given : Given) (lines : LinesState) (old : Holding D) (told : Option ReportText) (had : Status) (lines' : LinesState) (new : Holding D) : Type 0 where
    None_came : told ≡ None → NoneCame had lines lines' → new ≡ old → Answers_next given lines old told had lines' new
    One_came : Holds_over Answers given lines (stand_of tells content faults moment images old) told had lines' (stand_of tells content faults moment images new) → Answers_next given lines old told had lines' new

  -- A host is dialled once: no line could be had, or a session is held over it.
  pub data Dials (peer : Address) (given : Given) (host : Dialling) (lines : LinesState) (old : Holding D) (told : Option ReportText) (had : Status) (lines' : LinesState) (new : Holding D) : Type 0 where
    No_line : told ≡ None → had ≡ S.LineFault → IsDialled self A.Failed host.host host.port lines lines' → new ≡ old → Dials peer given host lines old told had lines' new
    A_line : Holds_over (Calls peer) given (dialling host.host host.port lines) (stand_of tells content faults moment images old) told had lines' (stand_of tells content faults moment images new) → Dials peer given host lines old told had lines' new

  -- A mark is taken away, where the store isn't broken. A disk that fails turns the status into its own.
  pub data Frees (path text : List ℕ) (was had : Status) (old new : Holding D) : Type 0 where
    Is_broken : IsSome old.memory.broken → had ≡ was → new ≡ old → Frees path text was had old new
    Takes_away : (result : Result (Unit {0}) StoreFault) → Takes (mark_gone path text) result (stand_of tells content faults moment images old) (stand_of tells content faults moment images new)
        → had ≡ status_behind result was (faults new.disk) → Frees path text was had old new

  -- a node's call mark is being made: at every moment it stands beside its own note alone, whole (`busy_marks`)
  abbrev pub Notes : (peer : Address) → ConfText → (old new : Holding D) → Type 0
  Notes peer conf old new = (time : ℕ) × Leaves moment images (MarksInPart (mark_name peer Call) (call_mark conf peer) (call_text conf) time) old.disk new.disk

  -- A node is called at a host. Its call mark is made first: where there is no memory for it, another program's stands there, or the
  -- disk fails, nobody is dialled. Else that is done under the mark, which is taken away behind it.
  pub data Calls_node (peer : Address) (given : Given) (host : Dialling) (lines : LinesState) (opened : Holding D) (told : Option ReportText) (had : Status) (lines' : LinesState) (left : Holding D) : Type 0 where
    No_room : told ≡ None → had ≡ S.NoMemory → lines' ≡ lines → left ≡ opened → Calls_node peer given host lines opened told had lines' left
    Is_marked : told ≡ None → had ≡ S.Marked (last_part (call_mark given.conf peer)) → lines' ≡ lines → (time : ℕ)
        → Takes (marked_so (call_mark given.conf peer) (call_text given.conf) time) (Ok Exists) (stand_of tells content faults moment images opened) (stand_of tells content faults moment images left)
        → Notes peer given.conf opened left
        → IfTold (stand_of tells content faults moment images opened).state.content (λ s. IsSome (s.outside (call_mark given.conf peer))) → Calls_node peer given host lines opened told had lines' left
    Not_marked : told ≡ None → had ≡ S.DiskFault (faults left.disk) → lines' ≡ lines → (time : ℕ) (fault : StoreFault)
        → Takes (marked_so (call_mark given.conf peer) (call_text given.conf) time) (Err fault) (stand_of tells content faults moment images opened) (stand_of tells content faults moment images left)
        → Notes peer given.conf opened left → Calls_node peer given host lines opened told had lines' left
    Under_mark : (marked talked : Holding D) (was : Status) (time : ℕ)
        → Takes (marked_so (call_mark given.conf peer) (call_text given.conf) time) (Ok Made) (stand_of tells content faults moment images opened) (stand_of tells content faults moment images marked)
        → Notes peer given.conf opened marked → Dials peer given host lines marked told was lines' talked → Frees (call_mark given.conf peer) (call_text given.conf) was had talked left → Calls_node peer given host lines opened told had lines' left
