-- What the steps of a session are at the node that its desk tells: events of the world of two nodes (own).
use Rattle.std.specs.Prelude.{◌≡◌, ◌⊎◌, ℕ, ◌<◌, Bool, true, List, [], ◌∷◌, ◌++◌, Option, Some, None, Ok}
use Rattle.ftn_addr.specs.Address.{Address}
use Rattle.ftn_addr.specs.Frames.{FrameText, Command as CommandFrame, Data as DataFrame}
use Rattle.binkp_args.specs.Command.{CommandText, File as FileCommand, Eob, Got as GotCommand, Get as GetCommand, Skip as SkipCommand, command_of}
use Rattle.node_model.specs.Lists.{Each}
use Rattle.disk_model.specs.World.{World as Contents}
use Rattle.node_model.specs.Lives.{OpensWith}
use Rattle.node_model.specs.Node.{Settings, Node, Opening, stopped}
use Rattle.node_model.specs.Stores.{Stored, StoreState}
use Rattle.node_model.specs.Calls.{Call, Knock_call, Open_call, Leave_call, Fault, Answer, Refused, Event, NodeStep, OtherSteps, Turned, EndsRefused, AllTakeIn}
use Rattle.node_model.specs.Images.{AllSettle}
use Rattle.node_model.specs.Talk.{Message, File, Data, Got, Get, Skip, End, Part, part_at, Talk, Verdict}
use Rattle.node_store.specs.Finding.{IsNewMemory}
use Rattle.node_store.specs.Sounds.{KeepsSound, seatless}
use Rattle.node_store.specs.Stored.{Memory, stored_in, state_of}
use Rattle.session_recv.specs.Replies.{held_along}
use Rattle.session_core.specs.Givings.{Gave}
use Rattle.session_core.specs.Says.{said_bytes, filling}
use Rattle.session_core.specs.Sessions.{Said, Gives, outcome_bytes, outcome_took, outcome_gave, frame_number, terms_of}
use Rattle.session_auth.specs.Login.{Stage as LoginStage, In, reply_to}
use Rattle.session_auth.specs.Sides.{Side}
use Rattle.session_core.specs.Stages.{role_of, Setting, Stage, Logs_in, Talks}
use Rattle.session_core.specs.Takings.{Took}
use Rattle.binkp_link.specs.Lines.{LineState}
use Rattle.session_run.specs.Machine.{World, Phase, Starting, Over, Draining, Closed, Reach, opening, after_took, after_gave}
use Rattle.session_run.specs.Reports.{ReportText}
use Rattle.hub_core.specs.Hubs.{node_with}
use Rattle.world_pair.specs.Course.{Course, Makes}
use Rattle.world_pair.specs.FromDesk.{at_desk, RowHappens, TakeHappens, TurnHappens}
use Rattle.command_base.specs.Statuses.{Status}
use Rattle.binkp_mailer.specs.TopCall.{Given, HeldSession, lent, new_hub}

-- The node of a session.

-- where a session talks, the file that it holds is that one
abbrev pub Holds : Stage → Option Part → Type 0
Holds (Talks talk held) part = held ≡ part
Holds stage part = Unit {0}

-- until a session's end is there
abbrev pub Until_end : Phase → Type 0 → Type 0
Until_end (Over end) P = Unit {0}
Until_end (Draining mute end) P = Unit {0}
Until_end (Closed end) P = Unit {0}
Until_end phase P = P

-- the session's desk tells that node, and until its end what the session holds is what its seat holds there
pub record IsAt (seat : ℕ) (n : Node) (w : World) : Type 0 where
  pub desk : w.desk ≡ at_desk seat n
  pub held : Until_end w.phase (Holds w.stage (part_at n seat))

-- Calls that no row of a session makes.

-- a row of the take-in was refused, and so is the call, which makes no step
pub record Misses_step (before : List Event) (answer : Answer) (old new : Node) : Type 0 where
  pub fault : Fault
  pub refused : EndsRefused before fault
  pub answered : answer ≡ Refused fault
  pub same : new ≡ old

-- other seats step, files are taken in, and then the call makes its step
pub record CallHappens (seat : ℕ) (old : Node) (call : Call) (answer : Answer) (new : Node) : Type 0 where
  pub steps : ℕ
  pub mid : Node
  pub others : OtherSteps steps seat old mid
  pub before : List Event
  pub takes_in : AllTakeIn before
  pub asks : Node
  pub rows : Makes seat mid before asks
  pub own : NodeStep seat asks call answer new ⊎ Misses_step before answer asks new

-- Messages.

-- the message that a command is, where it is one
abbrev pub message_in : CommandText → Option Message
message_in (FileCommand key offset) = Some (File key offset)
message_in Eob = Some End
message_in (GotCommand key) = Some (Got key)
message_in (GetCommand key offset) = Some (Get key offset)
message_in (SkipCommand key) = Some (Skip key)
message_in command = None

-- the frame is that message, as the node of that address reads it
abbrev pub IsFrameOf : Address → Message → FrameText → Type 0
IsFrameOf home message (CommandFrame number args) = (command : CommandText) × (command_of home number args ≡ Ok command) × (message_in command ≡ Some message)
IsFrameOf home message (DataFrame bytes) = message ≡ Data bytes

-- A message is taken: the row of it happens at the node, and what is written is what the row says, and its last words where
-- it ends the session, or a front of these for want of memory.
pub record TakesMessage (seat : ℕ) (old : Node) (w v : World) : Type 0 where
  pub talk : Talk
  pub held : Option Part
  pub met : w.stage ≡ Talks talk held
  pub frame : FrameText
  pub frames : v.frames ≡ w.frames ++ frame ∷ []
  pub message : Message
  pub is_frame : IsFrameOf w.setting.home message frame
  pub events : List Event
  pub verdict : Verdict
  pub happens : (was : Course) → was.now ≡ talk → RowHappens seat old v.desk (TakeHappens seat was message events verdict)
  pub written : List ℕ
  pub took : Took
  pub said : Said (said_bytes verdict.said ++ outcome_bytes verdict.outcome) (outcome_took (frame_number v.frames) verdict.outcome) written took
  pub output : v.output ≡ w.output ++ written
  pub phase : v.phase ≡ after_took took
  pub stage : v.stage ≡ Talks verdict.after (held_along held events)

-- an own turn, in the same way
pub record MakesOwnTurn (seat : ℕ) (old : Node) (w v : World) : Type 0 where
  pub talk : Talk
  pub held : Option Part
  pub met : w.stage ≡ Talks talk held
  pub events : List Event
  pub verdict : Verdict
  pub happens : (was : Course) → was.now ≡ talk → RowHappens seat old v.desk (TurnHappens seat was events verdict)
  pub written : List ℕ
  pub gave : Gave
  pub said : Gives (said_bytes verdict.said ++ (filling verdict.filled ++ outcome_bytes verdict.outcome)) (outcome_gave verdict.outcome) written gave
  pub output : v.output ≡ w.output ++ written
  pub phase : v.phase ≡ after_gave gave
  pub stage : v.stage ≡ Talks verdict.after held

-- Steps at which the node isn't asked.

-- nothing is said, and no frame is taken
pub record IsStill (w v : World) : Type 0 where
  pub stage : v.stage ≡ w.stage
  pub output : v.output ≡ w.output
  pub frames : v.frames ≡ w.frames

-- a frame is taken that is no message
pub record TakesNoMessage (w v : World) : Type 0 where
  pub frame : FrameText
  pub frames : v.frames ≡ w.frames ++ frame ∷ []
  pub none : (message : Message) → IsFrameOf w.setting.home message frame → ⊥

-- where a session talks
abbrev pub IfTalks : Stage → Type 0 → Type 0
IfTalks (Talks talk held) P = P
IfTalks stage P = Unit {0}

-- at that command the login lets the peer in, with these addresses, and says whether a password was checked
abbrev pub LetsIn : Setting → LoginStage → CommandText → List Address → Bool → Type 0
LetsIn s at command peers secure = (reply_to (terms_of s) at command).step ≡ In peers secure

-- What one step of a session is at its node: it asks nothing of it, and where the session talks it takes no
-- message and makes no turn that says something; this side knocks, as its session begins; a session
-- opens for the peer that its login lets in; a message is taken; an own turn is made; or the session leaves.
pub data StepIs (seat : ℕ) (old : Node) (w v : World) (new : Node) : Type 0 where
  Asks_nothing : IfTalks w.stage (IsStill w v ⊎ TakesNoMessage w v) → new ≡ old → StepIs seat old w v new
  Knocks : (answer : Answer) → w.phase ≡ Starting → CallHappens seat old (Knock_call (role_of w.setting.side)) answer new → StepIs seat old w v new
  Opens : (at : LoginStage) (command : CommandText) (peers : List Address) (secure : Bool) (answer : Answer) → w.stage ≡ Logs_in at → LetsIn w.setting at command peers secure
      → CallHappens seat old (Open_call (role_of w.setting.side) peers secure w.setting.moment) answer new → StepIs seat old w v new
  Takes : TakesMessage seat old w v → StepIs seat old w v new
  Turns : MakesOwnTurn seat old w v → StepIs seat old w v new
  Leaves : (answer : Answer) → CallHappens seat old Leave_call answer new → StepIs seat old w v new

-- A session from w at that node to v at another, step by step.
pub data Course_at (seat : ℕ) (w : World) (n : Node) : World → Node → Type 0 where
  Here : Course_at seat w n w n
  Then : {u v : World} {k m : Node} → Course_at seat w n u k → IsAt seat k u → StepIs seat k u v m → Course_at seat w n v m

-- no row behind a call, which answers a request, found that the disk failed
abbrev pub NoneBroke : List Turned → Type 0
NoneBroke es = Each (λ (e : Turned). AllSettle e.after) es

-- Every run of a session at a desk that tells its node is such a course, where no answer to a request broke the store: of
-- what is held then nothing is said.
abbrev pub SessionsAreCourses : Type 0
SessionsAreCourses =
    (alone : Bool) (s : Setting) (line : LineState) (seat : ℕ) (n : Node) (v : World) → 0 < s.block
    → Reach alone (opening s line (at_desk seat n)) v → NoneBroke v.events
    → (m : Node) × IsAt seat m v × Course_at seat (opening s line (at_desk seat n)) n v m

-- Such a course is the session of every call over a store that tells what it keeps, by settings with a block.
abbrev pub CallsAreCourses : Type 0
CallsAreCourses =
    (side : Side) (given : Given) (line line' : LineState) (store store' : StoreState) (told : Option ReportText) (status : Status) (kept : Stored)
    → 0 < given.conf.block → store.content ≡ Some kept → (held : HeldSession side given line store told status line' store') → NoneBroke held.session.last.events
    → (m : Node) × IsAt 0 m held.session.last
    × Course_at 0 (opening (lent side given) line (at_desk 0 (node_with kept store (new_hub given.conf)))) (node_with kept store (new_hub given.conf)) held.session.last m

-- Openings.

-- A store that was just opened is what a stop leaves of any node that kept the same: no seat is given, and of all that isn't
-- kept nothing is left.
abbrev pub OpeningsAreStops : Type 0
OpeningsAreStops =
    (settings : Settings) (w : Contents) (faults : ℕ) (m : Memory) (n : Node) → IsNewMemory m → KeepsSound settings (state_of true w faults m)
    → n.state ≡ (stored_in w m).stock.state
    → (o : Opening) × OpensWith n.state o × (seatless settings (stored_in w m) (state_of true w faults m) ≡ stopped o n)
