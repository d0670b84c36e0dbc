-- What holds of every session, in the subject's own words (own, after FTS-1026).
use Rattle.std.specs.Prelude.{◌≡◌, ◌⊎◌, ℕ, ◌+◌, ◌≤◌, Bool, true, false, List, [], ◌∷◌, ◌++◌, length, Some, Ok}
use Rattle.ftn_addr.specs.Address.{Address}
use Rattle.ftn_addr.specs.Counts.{Increased, CountGrew, next_count}
use Rattle.ftn_addr.specs.Frames.{FrameText, Command}
use Rattle.binkp_args.specs.Command.{CommandText, Pwd, Error, Bsy, command_of}
use Rattle.binkp_frame.specs.Stream.{Begins}
use Rattle.node_model.specs.Calls.{Leave_call, Disk, Read, Full, Answer, Busy, Refused, Counts, counts_of, DeskState, Turned, asked_of}
use Rattle.node_model.specs.Images.{Stand, Drifted, RanAt}
use Rattle.node_model.specs.Lists.{Each}
use Rattle.node_model.specs.Talk.{is_finished}
use Rattle.cram_md5.specs.Answer.{answer, is_answer}
use Rattle.session_auth.specs.Login.{Awaits_password}
use Rattle.session_auth.specs.Passwords.{wanted_password}
use Rattle.session_core.specs.declared.ending.Cause.{Cause}
use Rattle.session_core.specs.Ends.{End}
use Rattle.session_core.specs.Ends as E
use Rattle.session_core.specs.Takings as T
use Rattle.binkp_link.specs.Lines.{LineState, Moves, shut}
use Rattle.session_core.specs.Stages.{Setting, Stage, Logs_in, Talks}
use Rattle.session_core.specs.Sessions.{Reply, Row, frame_number, fault_end}
use Rattle.session_run.specs.Acknowledged.{Written}
use Rattle.session_run.specs.Reports.{ReportText, Reports}
use Rattle.session_run.specs.Resumption.{LeavesMarked}
use Rattle.session_run.specs.Settled.{MaySettle}
use Rattle.session_run.specs.Machine.{World, Phase, Over, Draining, Closed, Reach, Throughout, opening, is_mute, after_leave}

abbrev pub joined : List (List ℕ) → List ℕ
joined [] = []
joined (piece ∷ pieces) = piece ++ joined pieces

-- the count of ends rose exactly at Dropped, which a failing `leave` may turn into DiskFault
abbrev pub EndCount : End → ℕ → ℕ → Type 0
EndCount E.Dropped before now = now ≡ next_count before
EndCount (E.DiskFault count) before now = (now ≡ before) ⊎ (now ≡ next_count before)
EndCount _ before now = now ≡ before

abbrev pub EndCountAt : Phase → ℕ → ℕ → Type 0
EndCountAt (Over end) before now = EndCount end before now
EndCountAt (Draining mute end) before now = EndCount end before now
EndCountAt (Closed end) before now = EndCount end before now
EndCountAt _ before now = now ≡ before

-- LineFault comes only where a fault of the line was counted, Quiet only where the line was quiet sixty times on end
abbrev pub LineCause : End → (before now calm : ℕ) → Type 0
LineCause E.LineFault before now calm = Increased before now
LineCause E.Quiet before now calm = 60 ≤ calm
LineCause _ before now calm = Unit {0}

-- why nothing more is written: the line failed, or it was quiet sixty times on end; else the end is neither
abbrev pub DrainCause : (mute : Bool) → End → (before now calm : ℕ) → Type 0
DrainCause true end before now calm = LineCause end before now calm × (Increased before now ⊎ (60 ≤ calm))
DrainCause false end before now calm = is_mute end ≡ false

abbrev pub LineCauseAt : Phase → (before now calm : ℕ) → Type 0
LineCauseAt (Over end) before now calm = LineCause end before now calm
LineCauseAt (Draining mute end) before now calm = DrainCause mute end before now calm
LineCauseAt (Closed end) before now calm = LineCause end before now calm
LineCauseAt _ before now calm = Unit {0}

-- the store was broken before with that count, or its faults rose to that count since
abbrev pub FaultSince : (count : ℕ) → (before now : Counts) → Type 0
FaultSince count before now = (before.broken ≡ Some count) ⊎ (Increased before.faults count × CountGrew count now.faults)

-- DiskFault comes only with a count of faults of the store, at which it was broken before or to which they rose;
-- LedgerFull only where a Full was counted
abbrev pub DeskCause : End → (before now : Counts) → Type 0
DeskCause (E.DiskFault count) before now = FaultSince count before now
DeskCause E.LedgerFull before now = Increased before.fulls now.fulls
DeskCause _ before now = Unit {0}

abbrev pub DeskCauseAt : Phase → (before now : Counts) → Type 0
DeskCauseAt (Over end) before now = DeskCause end before now
DeskCauseAt (Draining mute end) before now = DeskCause end before now
DeskCauseAt (Closed end) before now = DeskCause end before now
DeskCauseAt _ before now = Unit {0}

-- the last of these calls was answered so
pub record LastAnswered (es : List Turned) (answer : Answer) : Type 0 where
  pub earlier : List Turned
  pub last : Turned
  pub is : es ≡ earlier ++ last ∷ []
  pub answered : last.asked.answer ≡ answer

-- DiskFault comes only where the last call answered Disk or Read with that count, LedgerFull only where it answered
-- Full, and TurnedAway only where it answered Busy
abbrev pub AnswerCause : End → List Turned → Type 0
AnswerCause (E.DiskFault count) es = LastAnswered es (Refused (Disk count)) ⊎ LastAnswered es (Refused (Read count))
AnswerCause E.LedgerFull es = LastAnswered es (Refused Full)
AnswerCause E.TurnedAway es = LastAnswered es Busy
AnswerCause _ es = Unit {0}

-- the last of these calls left the desk, and only a disk that failed in it turned the end of the calls before it
pub record LeftAt (end : End) (es : List Turned) : Type 0 where
  pub first : End
  pub earlier : List Turned
  pub cause : AnswerCause first earlier
  pub last : Turned
  pub is : es ≡ earlier ++ last ∷ []
  pub leaves : last.asked.call ≡ Leave_call
  pub turned : end ≡ after_leave first last.asked.answer

abbrev pub AnswerCauseAt : Phase → List Turned → Type 0
AnswerCauseAt (Over end) es = AnswerCause end es
AnswerCauseAt (Draining mute end) es = LeftAt end es
AnswerCauseAt (Closed end) es = LeftAt end es
AnswerCauseAt _ es = Unit {0}

-- What the desk's last answer brings about: a fault ends the session by its own end, and Busy by TurnedAway, unless memory
-- ran out over the words of it.
abbrev pub AnswerBrings : Answer → End → Type 0
AnswerBrings (Refused fault) end = (end ≡ fault_end fault) ⊎ (end ≡ E.NoMemory)
AnswerBrings Busy end = (end ≡ E.TurnedAway) ⊎ (end ≡ E.NoMemory)
AnswerBrings answer end = Unit {0}

-- what the peer's last words bring about: M_ERR ends the session by PeerError with its text, M_BSY by PeerBusy
abbrev pub WordBrings : CommandText → End → Type 0
WordBrings (Error text) end = end ≡ E.PeerError text
WordBrings (Bsy text) end = end ≡ E.PeerBusy
WordBrings said end = Unit {0}

-- the last of these frames says that
pub record LastSaid (home : Address) (frames : List FrameText) (said : CommandText) : Type 0 where
  pub earlier : List FrameText
  pub number : ℕ
  pub args : List ℕ
  pub is : frames ≡ earlier ++ Command number args ∷ []
  pub says : command_of home number args ≡ Ok said

-- the end is what the last of these answers and the last of these frames bring about
pub record IsBrought (end : End) (es : List Turned) (home : Address) (frames : List FrameText) : Type 0 where
  pub answer : (answer : Answer) → LastAnswered es answer → AnswerBrings answer end
  pub word : (said : CommandText) → LastSaid home frames said → WordBrings said end

-- the same before the desk was left
abbrev pub WasBrought : End → List Turned → Address → List FrameText → Type 0
WasBrought end es home frames = (left : LeftAt end es) × IsBrought left.first left.earlier home frames

-- while a session goes on, none of them brings an end about, so that it holds of whatever end comes
abbrev pub IsBroughtAt : Phase → List Turned → Address → List FrameText → Type 0
IsBroughtAt (Over end) es home frames = IsBrought end es home frames
IsBroughtAt (Draining mute end) es home frames = WasBrought end es home frames
IsBroughtAt (Closed end) es home frames = WasBrought end es home frames
IsBroughtAt phase es home frames = (end : End) → IsBrought end es home frames

-- The frame with that number, the last that was taken of these bytes, was refused so: by its row at the stage that it
-- met, with the calls that it made.
pub record Refuses (cause : Cause) (n : ℕ) (setting : Setting) (frames : List FrameText) (met : Stage) (made : List Turned) (taken : List ℕ) : Type 0 where
  pub rest : List ℕ
  pub begins : Begins taken frames rest
  pub earlier : List FrameText
  pub frame : FrameText
  pub last : frames ≡ earlier ++ frame ∷ []
  pub number : n ≡ frame_number frames
  pub reply : Reply
  pub row : Row setting n met frame (asked_of made) reply
  pub took : reply.took ≡ T.Ended (E.Broke cause n)

-- the last frame that was taken of these bytes says that
pub record Says (said : CommandText) (setting : Setting) (frames : List FrameText) (taken : List ℕ) : Type 0 where
  pub rest : List ℕ
  pub begins : Begins taken frames rest
  pub earlier : List FrameText
  pub number : ℕ
  pub args : List ℕ
  pub last : frames ≡ earlier ++ Command number args ∷ []
  pub says : command_of setting.home number args ≡ Ok said

-- The login was waiting for the password of these peers' first address that has one. The answer to the challenge was wanted,
-- and what was given is no answer.
pub record Refuses_password (wanted given : List ℕ) (setting : Setting) (frames : List FrameText) (met : Stage) (taken : List ℕ) : Type 0 where
  pub peers : List Address
  pub waits : met ≡ Logs_in (Awaits_password peers)
  pub password : List ℕ
  pub has : wanted_password setting.conf peers ≡ Some password
  pub answers : wanted ≡ answer password setting.challenge
  pub other : is_answer password setting.challenge given ≡ false
  pub says : Says (Pwd given) setting frames taken

-- both sides have said that they are done, and no file is held
abbrev pub IsDone : Stage → Type 0
IsDone (Talks talk held) = is_finished talk held ≡ true
IsDone stage = ⊥

-- Finished comes only once both sides are done; PeerError and PeerBusy only where the peer's last frame taken is an M_ERR
-- with that text, or an M_BSY; BadPassword only where that frame is an M_PWD with what was given, which is no answer that was wanted;
-- Broke only where that frame was refused so; Endless only where the bytes taken and sent reach the limit
abbrev pub OwnCause : End → Setting → Stage → List FrameText → (met : Stage) (made : List Turned) (taken sent : List ℕ) → Type 0
OwnCause E.Finished setting stage frames met made taken sent = IsDone stage
OwnCause (E.PeerError text) setting stage frames met made taken sent = Says (Error text) setting frames taken
OwnCause E.PeerBusy setting stage frames met made taken sent = (text : List ℕ) × Says (Bsy text) setting frames taken
OwnCause (E.BadPassword wanted given) setting stage frames met made taken sent = Refuses_password wanted given setting frames met taken
OwnCause (E.Broke cause n) setting stage frames met made taken sent = Refuses cause n setting frames met made taken
OwnCause E.Endless setting stage frames met made taken sent = setting.limit ≤ length taken + length sent
OwnCause _ setting stage frames met made taken sent = Unit {0}

abbrev pub OwnCauseAt : Phase → Setting → Stage → List FrameText → (met : Stage) (made : List Turned) (taken sent : List ℕ) → Type 0
OwnCauseAt (Over end) setting stage frames met made taken sent = OwnCause end setting stage frames met made taken sent
OwnCauseAt (Draining mute end) setting stage frames met made taken sent = OwnCause end setting stage frames met made taken sent
OwnCauseAt (Closed end) setting stage frames met made taken sent = OwnCause end setting stage frames met made taken sent
OwnCauseAt _ setting stage frames met made taken sent = Unit {0}

-- once closed, all was sent, or the line failed, or it was quiet sixty times on end
abbrev pub WholeAt : Phase → ℕ → LineState → (output sent : List ℕ) → Type 0
WholeAt (Closed end) before line output sent = (output ≡ sent) ⊎ (Increased before line.faults ⊎ (60 ≤ line.calm))
WholeAt _ before line output sent = Unit {0}

-- counts now, and how they came from those before
pub record Since (before now : Counts) : Type 0 where
  pub faults : CountGrew before.faults now.faults
  pub fulls : CountGrew before.fulls now.fulls
  pub broke : (count : ℕ) → now.broken ≡ Some count → FaultSince count before now

-- what holds at each moment of a session that began over this line and this desk
pub record Facts (alone : Bool) (line : LineState) (desk : DeskState) (w : World) : Type 0 where
  -- the pieces joined are the bytes taken; the line has taken these and sent those
  pub pieces : joined w.pieces ≡ w.taken
  pub moves : Moves w.taken w.sent line.bytes w.line.bytes
  -- the bytes sent are a front of the output
  pub left : List ℕ
  pub front : w.output ≡ w.sent ++ left
  pub whole : WholeAt w.phase line.faults w.line w.output w.sent
  -- the causes of its end
  pub faults : line.faults ≤ w.line.faults
  pub ends : EndCountAt w.phase line.ends w.line.ends
  pub line_cause : LineCauseAt w.phase line.faults w.line.faults w.line.calm
  pub counts : Since (counts_of desk.knows) (counts_of w.desk.knows)
  pub desk_cause : DeskCauseAt w.phase (counts_of desk.knows) (counts_of w.desk.knows)
  pub answer_cause : AnswerCauseAt w.phase w.events
  pub own_cause : OwnCauseAt w.phase w.setting w.stage w.frames w.last_stage w.last_calls w.taken w.sent

-- A session over this line and this desk of which this is reported: a run from the opening to its close, and what holds of
-- it. The line is then closed on this side.
pub record WholeRun (alone : Bool) (setting : Setting) (line : LineState) (desk : DeskState) (report : ReportText) (line' : LineState) (desk' : DeskState) : Type 0 where
  pub last : World
  pub run : Reach alone (opening setting line desk) last
  pub reports : Reports report last
  pub line_is : shut last.line ≡ line'
  pub desk_is : Drifted alone last.desk desk'
  pub facts : Facts alone line desk last
  -- at each moment each M_GOT that was written by then names a file that the node has by then, and M_EOB stands behind all
  -- offers
  pub written : Throughout alone (Written alone desk) (opening setting line desk) last run
  -- at each moment each entry that was settled by then was offered, and the peer has acknowledged its file
  pub settled : Throughout alone (λ (w : World). Each (MaySettle alone desk w.events setting.home w.frames) w.events) (opening setting line desk) last run
  -- its end is what the desk's last answer before it was left and the peer's last frame bring about
  pub brought : IsBroughtAt last.phase last.events setting.home last.frames
  -- what was held as the desk was left is marked, with all the bytes that came of it
  pub marked : LeavesMarked alone desk last.events

-- The same with what a stop may leave of it: its calls of the desk, with the moments at which they ended. At each moment
-- since the opening each image is one of the call of that moment, and at its end the state after it.
pub record IsSession (alone : Bool) (setting : Setting) (line : LineState) (desk : Stand) (report : ReportText) (line' : LineState) (desk' : Stand) : Type 0 where
  pub whole : WholeRun alone setting line desk.state report line' desk'.state
  pub ran : RanAt alone desk whole.last.events desk'
