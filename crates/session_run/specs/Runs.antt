-- Where the code of a session stands in the run of its machine.
use Rattle.std.specs.Prelude.{◌≡◌, ℕ, ◌+◌, ◌-◌, ◌*◌, ◌^◌, ◌<◌, ◌≤◌, ◌⊎◌, min, Bool, true, false, List, [], ◌++◌, length, Option, Some, None}
use Rattle.ftn_addr.specs.Frames.{FrameText}
use Rattle.binkp_frame.specs.Stream.{Splits}
use Rattle.node_model.specs.Calls.{DeskState, Event, Turned, asked_of}
use Rattle.node_model.specs.Images.{Stand, Drifted, RanAt}
use Rattle.session_core.specs.declared.ending.End.{End as EndCode}
use Rattle.session_core.specs.Ends.{End, end_text}
use Rattle.session_run.specs.declared.run.Run.{Run}
use Rattle.binkp_link.specs.Lines.{LineState}
use Rattle.session_core.specs.declared.session.Session.{Session}
use Rattle.session_core.specs.Stages.{Setting, at_first, untold, told_along}
use Rattle.session_core.specs.Sessions.{frame_number}
use Rattle.session_core.specs.Replies.{told_of, stage_in}
use Rattle.session_run.specs.declared.unsent.TheConstants.{MOST_LEFT, MOST_TO_READ}
use Rattle.session_run.specs.Machine.{World, Phase, Over, Draining, Closed, Reach}

-- the code's run, where its line and its desk stand, the frames that were read and not yet taken, and the phase
pub record Spot : Type 0 where
  pub run : Run
  pub line : LineState
  pub desk : DeskState
  pub pending : List FrameText
  pub phase : Phase

abbrev pub spot : Run → LineState → DeskState → List FrameText → Phase → Spot
spot run line desk pending phase = record { run = run; line = line; desk = desk; pending = pending; phase = phase }

-- what was taken, the frames and the stage, as the code has them
pub record Stream (run : Run) (pending : List FrameText) (w : World) : Type 0 where
  pub stage_is : w.stage ≡ stage_in run.session
  pub number_is : run.session.frames ≡ frame_number w.frames
  pub fed : List ℕ
  pub whole : w.taken ≡ fed ++ run.piece.list
  pub splits : Splits fed (w.frames ++ pending) run.decoder

-- these matter as long as the session goes on
abbrev pub Follows : Phase → Run → List FrameText → World → Type 0
Follows (Over end) run pending w = Unit {0}
Follows (Draining mute end) run pending w = Unit {0}
Follows (Closed end) run pending w = Unit {0}
Follows phase run pending w = Stream run pending w

-- the node wasn't left yet
abbrev pub IsUnleft : Phase → Type 0
IsUnleft (Draining mute end) = ⊥
IsUnleft (Closed end) = ⊥
IsUnleft phase = Unit {0}

-- what the session tells of these calls: its login, and what it has counted
pub record Tells_calls (session : Session) (es : List Event) : Type 0 where
  pub told : told_of session ≡ told_along untold es

-- the desk stands where the machine has it, but for steps of other seats, which the next call counts as its own drift
pub record At (alone : Bool) (setting : Setting) (s : Spot) (w : World) : Type 0 where
  pub setting_is : w.setting ≡ setting
  pub line_is : w.line ≡ s.line
  pub desk_is : Drifted alone w.desk s.desk
  pub phase_is : w.phase ≡ s.phase
  pub unsent : w.output ≡ w.sent ++ s.run.out
  pub taken : length w.taken ≡ s.run.taken
  pub wrote : IsUnleft s.phase → length w.sent ≡ s.run.wrote
  -- a count stands at its type's end
  pub stood : min s.run.wrote (2 ^ 64 - 1) ≡ min (length w.sent) (2 ^ 64 - 1)
  pub tells : Tells_calls s.run.session (asked_of w.events)
  pub follows : Follows s.phase s.run s.pending w

-- wherever the code stands in its machine's run, the machine goes on to where the code comes, by these calls of the desk
pub record GoesBy (alone : Bool) (setting : Setting) (a : Spot) (es : List Turned) (b : Spot) : Type 0 where
  pub goes : (w : World) → At alone setting a w → (v : World) × Reach alone w v × At alone setting b v × (v.events ≡ w.events ++ es)

-- it goes on there without a call
abbrev pub Goes : (alone : Bool) (setting : Setting) (a b : Spot) → Type 0
Goes alone setting a b = GoesBy alone setting a [] b

-- it goes on there by calls of the desk that lead from one stand to another, each image since being one of the call of
-- its moment
pub record Went (alone : Bool) (setting : Setting) (old : Stand) (a : Spot) (new : Stand) (b : Spot) : Type 0 where
  pub events : List Turned
  pub goes : GoesBy alone setting a events b
  pub ran : RanAt alone old events new

-- nothing has happened yet
pub record IsNew (run : Run) : Type 0 where
  pub stage : stage_in run.session ≡ at_first
  pub told : told_of run.session ≡ untold
  pub frames : run.session.frames ≡ 0
  pub decoder : run.decoder ≡ []
  pub piece : run.piece.list ≡ []
  pub out : run.out ≡ []
  pub taken : run.taken ≡ 0
  pub wrote : run.wrote ≡ 0

-- what a write leaves of a run
pub record Wrote (run run' : Run) (gone : List ℕ) : Type 0 where
  pub session : run'.session ≡ run.session
  pub decoder : run'.decoder ≡ run.decoder
  pub piece : run'.piece.list ≡ run.piece.list
  pub taken : run'.taken ≡ run.taken
  pub out : run.out ≡ gone ++ run'.out
  pub wrote : run'.wrote ≡ run.wrote + length gone

-- what a read leaves of a run
pub record Came (run run' : Run) (piece : List ℕ) : Type 0 where
  pub session : run'.session ≡ run.session
  pub decoder : run'.decoder ≡ run.decoder
  pub piece_is : run'.piece.list ≡ run.piece.list ++ piece
  pub out : run'.out ≡ run.out
  pub wrote : run'.wrote ≡ run.wrote
  pub taken : run'.taken ≡ run.taken + length piece

pub record SameCounts (run run' : Run) : Type 0 where
  pub taken : run'.taken ≡ run.taken
  pub wrote : run'.wrote ≡ run.wrote

-- the session is over, or goes on there
abbrev pub over_or : Option EndCode → Phase → Phase
over_or None goal = goal
over_or (Some end) goal = Over (end_text end)

-- how much may still come: each turn moves a byte or is one Quiet more
abbrev pub room : ℕ → Run → ℕ → ℕ
room limit run calm = 64 * (limit - (run.taken + run.wrote)) + (63 - calm)

-- the phase behind a write of what was left: nothing more is to be written, or something is
abbrev pub drained : Bool → End → Phase
drained true end = Closed end
drained false end = Draining false end

-- how much may still come of what is left: each write moves a byte or is one Quiet more
abbrev pub drain_room : Run → ℕ → ℕ
drain_room run calm = 64 * length run.out + (63 - calm)

-- the run may go on
pub record InLimit (limit : ℕ) (run : Run) (calm : ℕ) : Type 0 where
  pub below : run.taken + run.wrote < limit
  pub quiet : calm < 60

-- what a run that goes on holds between two turns: the rest of a frame, one piece that wasn't taken yet, which was read only where
-- few bytes were left to write, and those that are left
pub record IsBounded (run : Run) : Type 0 where
  pub short : length run.piece.list ≤ 4096
  pub fed : (run.piece.list ≡ []) ⊎ (length run.out ≤ MOST_TO_READ)
  pub left : length run.out ≤ MOST_LEFT

-- the run may go on, and there is less room, at least where strict holds
pub record Advances (limit : ℕ) (run run' : Run) (calm calm' : ℕ) (strict : Type 0) : Type 0 where
  pub within : InLimit limit run' calm'
  pub no_more : room limit run' calm' ≤ room limit run calm
  pub less : strict → room limit run' calm' < room limit run calm
