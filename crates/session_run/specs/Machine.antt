-- A session over bytes: what has happened so far, and what may happen next (own, after FTS-1026).
use Rattle.std.specs.Prelude.{◌≡◌, ◌⊎◌, ℕ, ◌+◌, ◌<◌, ◌≤◌, Bool, true, false, ◌&&◌, nat_le, ◌==◌, if◌then◌else◌, List, [], ◌∷◌, ◌++◌, length}
use Rattle.ftn_addr.specs.Frames.{FrameText}
use Rattle.binkp_frame.specs.Stream.{Begins, Splits}
use Rattle.node_model.specs.declared.words.Role.{Role}
use Rattle.node_model.specs.Calls.{Knock_call, Leave_call, Disk, Answer, Refused, Event, DeskState, Turned, turned, asked_of, CallsBeside, Turns}
use Rattle.binkp_link.specs.declared.link.ReadAnswer.{ReadAnswer}
use Rattle.binkp_link.specs.declared.link.ReadAnswer.TheVariants as R
use Rattle.binkp_link.specs.declared.link.WriteAnswer.{WriteAnswer}
use Rattle.binkp_link.specs.declared.link.WriteAnswer.TheVariants as W
use Rattle.session_core.specs.Ends.{End}
use Rattle.session_core.specs.Ends as E
use Rattle.session_core.specs.Takings.{Took}
use Rattle.session_core.specs.Takings as T
use Rattle.session_core.specs.Givings.{Gave}
use Rattle.session_core.specs.Givings as G
use Rattle.binkp_link.specs.Lines.{LineState, IsRead, IsWrite, came, went}
use Rattle.session_core.specs.Stages.{Setting, role_of, Stage, at_first}
use Rattle.session_core.specs.Sessions.{Reply, Row, AfterKnock, Turn, GiveRow, Said, Gives, frame_number}
use Rattle.session_run.specs.declared.unsent.TheConstants.{MOST_TO_READ, MOST_TO_TURN}

-- where a session is: before its first turn; taking the frames that are whole, and then making the own turn; writing,
-- where the own turn waits or not; reading; over; writing what is left, unless its own end was mute; closed
pub data Phase : Type 0 where
  Starting : Phase
  Taking : Phase
  Writing : (waits : Bool) → Phase
  Reading : (waits : Bool) → Phase
  Over : (end : End) → Phase
  Draining : (mute : Bool) (end : End) → Phase
  Closed : (end : End) → Phase

-- what has happened: where line, desk and session stand now, the pieces read and the bytes that they make, the frames
-- taken, with the stage that the last of them met and the calls of the desk that it made, all that was to be written and
-- what of it was sent, and all calls of the desk
pub record World : Type 0 where
  pub setting : Setting
  pub line : LineState
  pub desk : DeskState
  pub stage : Stage
  pub phase : Phase
  pub pieces : List (List ℕ)
  pub taken : List ℕ
  pub frames : List FrameText
  pub last_stage : Stage
  pub last_calls : List Turned
  pub output : List ℕ
  pub sent : List ℕ
  pub events : List Turned

abbrev pub after_took : Took → Phase
after_took T.More = Taking
after_took (T.Ended end) = Over end

abbrev pub after_gave : Gave → Phase
after_gave G.Sent = Writing false
after_gave G.Waits = Writing true
after_gave (G.Ended end) = Over end

-- bytes moved: the session ends where they reach the limit
abbrev pub moved : ℕ → ℕ → Phase → Phase
moved limit bytes goal = if nat_le limit bytes then Over E.Endless else goal

-- a Quiet: the sixtieth on end ends the session
abbrev pub quieted : ℕ → Phase → Phase
quieted calm goal = if nat_le 60 calm then Over E.Quiet else goal

abbrev pub after_write : WriteAnswer → ℕ → ℕ → ℕ → Phase → Phase
after_write (W.Wrote n) limit bytes calm goal = moved limit bytes goal
after_write W.Quiet limit bytes calm goal = quieted calm goal
after_write W.Failed limit bytes calm goal = Over E.LineFault

abbrev pub after_read : ReadAnswer → ℕ → ℕ → ℕ → Phase
after_read (R.Came n) limit bytes calm = moved limit bytes Taking
after_read R.End limit bytes calm = Over E.Dropped
after_read R.NotYet limit bytes calm = Taking
after_read R.Quiet limit bytes calm = quieted calm Taking
after_read R.Failed limit bytes calm = Over E.LineFault

-- a `leave` that answers Disk turns any end
abbrev pub after_leave : End → Answer → End
after_leave end (Refused (Disk count)) = E.DiskFault count
after_leave end _ = end

-- this side knocks at its desk with its role, and greets its peer or turns it away
pub record Greets (alone : Bool) (w v : World) : Type 0 where
  pub phase : w.phase ≡ Starting
  pub new : w.stage ≡ at_first
  pub role : Role
  pub side : role ≡ role_of w.setting.side
  pub answer : Answer
  pub desk : DeskState
  pub rows_before : List Event
  pub rows_after : List Event
  pub call : CallsBeside alone w.desk (turned (Knock_call role) answer rows_before rows_after) desk
  pub reply : Reply
  pub follows : AfterKnock w.setting answer reply
  pub output : List ℕ
  pub took : Took
  pub said : Said reply.output reply.took output took
  pub is : v ≡ record w { desk = desk; stage = reply.stage; phase = after_took took; output = w.output ++ output; events = w.events ++ turned (Knock_call role) answer rows_before rows_after ∷ [] }

-- the next frame of the bytes taken is taken
pub record TakesFrame (alone : Bool) (w v : World) : Type 0 where
  pub phase : w.phase ≡ Taking
  pub frame : FrameText
  pub rest : List ℕ
  pub next : Begins w.taken (w.frames ++ frame ∷ []) rest
  pub events : List Turned
  pub reply : Reply
  pub row : Row w.setting (frame_number (w.frames ++ frame ∷ [])) w.stage frame (asked_of events) reply
  pub desk : DeskState
  pub chain : Turns alone w.desk events desk
  pub output : List ℕ
  pub took : Took
  pub said : Said reply.output reply.took output took
  pub is : v ≡ record w { desk = desk; stage = reply.stage; phase = after_took took; frames = w.frames ++ frame ∷ []; last_stage = w.stage; last_calls = events; output = w.output ++ output; events = w.events ++ events }

-- no further frame is whole, few bytes are left to write, and the own turn is made
pub record MakesTurn (alone : Bool) (w v : World) : Type 0 where
  pub phase : w.phase ≡ Taking
  pub rest : List ℕ
  pub none : Splits w.taken w.frames rest
  pub left : List ℕ
  pub unsent : w.output ≡ w.sent ++ left
  pub few : length left ≤ MOST_TO_TURN
  pub events : List Turned
  pub turn : Turn
  pub row : GiveRow w.setting.block w.stage (asked_of events) turn
  pub desk : DeskState
  pub chain : Turns alone w.desk events desk
  pub output : List ℕ
  pub gave : Gave
  pub said : Gives turn.output turn.gave output gave
  pub is : v ≡ record w { desk = desk; stage = turn.stage; phase = after_gave gave; output = w.output ++ output; events = w.events ++ events }

-- no further frame is whole, and too many bytes are left to write for an own turn
pub record PassesTurn (w v : World) : Type 0 where
  pub phase : w.phase ≡ Taking
  pub rest : List ℕ
  pub none : Splits w.taken w.frames rest
  pub left : List ℕ
  pub unsent : w.output ≡ w.sent ++ left
  pub many : MOST_TO_TURN < length left
  pub is : v ≡ record w { phase = Writing false }

-- a write of all that is left
pub record Writes (w v : World) : Type 0 where
  pub waits : Bool
  pub phase : w.phase ≡ Writing waits
  pub left : List ℕ
  pub unsent : w.output ≡ w.sent ++ left
  pub some : 0 < length left
  pub answer : WriteAnswer
  pub line : LineState
  pub step : IsWrite w.line answer left line
  pub is : v ≡ record w { line = line; sent = w.sent ++ went answer left; phase = after_write answer w.setting.limit (length w.taken + length (w.sent ++ went answer left)) line.calm (Reading waits) }

-- nothing is left to write
pub record PassesWrite (w v : World) : Type 0 where
  pub waits : Bool
  pub phase : w.phase ≡ Writing waits
  pub unsent : w.output ≡ w.sent
  pub is : v ≡ record w { phase = Reading waits }

-- few enough bytes are left to write: a read of at most 4096 bytes, which waits exactly where none is left and the own turn
-- waits
pub record Reads (w v : World) : Type 0 where
  pub waits : Bool
  pub phase : w.phase ≡ Reading waits
  pub left : List ℕ
  pub unsent : w.output ≡ w.sent ++ left
  pub few : length left ≤ MOST_TO_READ
  pub answer : ReadAnswer
  pub buffer : List ℕ
  pub room : length buffer ≡ 4096
  pub line : LineState
  pub step : IsRead (waits && (length left == 0)) w.line answer buffer line
  pub is : v ≡ record w { line = line; pieces = w.pieces ++ came answer buffer ∷ []; taken = w.taken ++ came answer buffer; phase = after_read answer w.setting.limit (length (w.taken ++ came answer buffer) + length w.sent) line.calm }

-- too many bytes are left to write for a read: the next piece is empty
pub record PassesRead (w v : World) : Type 0 where
  pub waits : Bool
  pub phase : w.phase ≡ Reading waits
  pub left : List ℕ
  pub unsent : w.output ≡ w.sent ++ left
  pub many : MOST_TO_READ < length left
  pub is : v ≡ record w { pieces = w.pieces ++ [] ∷ []; phase = Taking }

-- after these ends nothing more is written, also where `leave` turns them
abbrev pub is_mute : End → Bool
is_mute E.LineFault = true
is_mute E.Quiet = true
is_mute _ = false

-- the desk is left
pub record Leaves (alone : Bool) (w v : World) : Type 0 where
  pub end : End
  pub phase : w.phase ≡ Over end
  pub answer : Answer
  pub desk : DeskState
  pub rows_before : List Event
  pub rows_after : List Event
  pub call : CallsBeside alone w.desk (turned Leave_call answer rows_before rows_after) desk
  pub is : v ≡ record w { desk = desk; events = w.events ++ turned Leave_call answer rows_before rows_after ∷ []; phase = Draining (is_mute end) (after_leave end answer) }

abbrev pub MayGiveUp : Phase → Type 0
MayGiveUp Starting = Unit {0}
MayGiveUp Taking = Unit {0}
MayGiveUp (Reading waits) = Unit {0}
MayGiveUp _ = ⊥

-- want of memory ends a session between two rows
pub record GivesUp (w v : World) : Type 0 where
  pub phase : MayGiveUp w.phase
  pub is : v ≡ record w { phase = Over E.NoMemory }

abbrev pub after_drain : WriteAnswer → ℕ → End → Phase
after_drain (W.Wrote n) calm end = Draining false end
after_drain W.Quiet calm end = if nat_le 60 calm then Closed end else Draining false end
after_drain W.Failed calm end = Closed end

-- once the session is over, what is left is written
pub record Drains (w v : World) : Type 0 where
  pub end : End
  pub phase : w.phase ≡ Draining false end
  pub left : List ℕ
  pub unsent : w.output ≡ w.sent ++ left
  pub some : 0 < length left
  pub answer : WriteAnswer
  pub line : LineState
  pub step : IsWrite w.line answer left line
  pub is : v ≡ record w { line = line; sent = w.sent ++ went answer left; phase = after_drain answer line.calm end }

pub record Closes (w v : World) : Type 0 where
  pub mute : Bool
  pub end : End
  pub phase : w.phase ≡ Draining mute end
  pub done : (mute ≡ true) ⊎ (w.output ≡ w.sent)
  pub is : v ≡ record w { phase = Closed end }

-- what may happen next
pub data Step (alone : Bool) (w v : World) : Type 0 where
  greets : Greets alone w v → Step alone w v
  takes_frame : TakesFrame alone w v → Step alone w v
  makes_turn : MakesTurn alone w v → Step alone w v
  passes_turn : PassesTurn w v → Step alone w v
  writes : Writes w v → Step alone w v
  passes_write : PassesWrite w v → Step alone w v
  reads : Reads w v → Step alone w v
  passes_read : PassesRead w v → Step alone w v
  gives_up : GivesUp w v → Step alone w v
  leaves : Leaves alone w v → Step alone w v
  drains : Drains w v → Step alone w v
  closes : Closes w v → Step alone w v

-- a run from w to v, step by step
pub data Reach (alone : Bool) (w : World) : World → Type 0 where
  here : Reach alone w w
  next : {u v : World} → Reach alone w u → Step alone u v → Reach alone w v

-- this holds at each moment of a run, from its first to its last
abbrev pub Throughout : (alone : Bool) (P : World → Type 0) (w v : World) → Reach alone w v → Type 0
Throughout alone P w v here = P v
Throughout alone P w v (next {u} r s) = Throughout alone P w u r × P v

-- nothing has happened yet
abbrev pub opening : Setting → LineState → DeskState → World
opening setting line desk =
    record { setting = setting; line = line; desk = desk; stage = at_first; phase = Starting; pieces = []; taken = []; frames = []; last_stage = at_first; last_calls = []; output = []; sent = []; events = [] }
