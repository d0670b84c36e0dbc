-- What a desk that tells its node does is events of the world (own).
use Rattle.std.specs.Prelude.{zero, suc, None, Some, ◌≡◌, ◌⊎◌, ℕ, ◌<◌, Bool, false, List, [], ◌∷◌}
use Rattle.ftn_addr.specs.Address.{Address}
use Rattle.node_model.specs.declared.words.Role.{Role}
use Rattle.node_model.specs.Durable.{Durable}
use Rattle.node_model.specs.Node.{Node, Opening, stopped}
use Rattle.node_model.specs.Lives.{OpensWith}
use Rattle.node_model.specs.Calls.{Call, Queue_call, Knock_call, Open_call, Leave_call, Act_call, Give_call, Answer, Refused, Disk, Passes, Event, one, NodeStep, OtherSteps, OneQueue, DeskState, Tells, Turned, asked_of, Turns as DeskTurns}
use Rattle.node_model.specs.Talk.{Message, Verdict, part_at, TakeRow, TurnRow}
use Rattle.world_pair.specs.Course.{Course, Makes, course_after, skipped, StaysOpen, TakeMade, TurnMade, TakeLast, TakeBreaks, TurnLast}
use Rattle.world_pair.specs.World.{Place, SomeOf, Occurs}

-- Calls of no session.

abbrev pub OfNoSession : Call → Type 0
OfNoSession (Queue_call files taken answered) = Unit {0}
OfNoSession (Knock_call role) = Unit {0}
OfNoSession (Act_call dest) = Unit {0}
OfNoSession Give_call = Unit {0}
OfNoSession call = ⊥

-- the step to that node is an event, and the peer stays as it is
abbrev pub IsEvent : Place → Place → Node → Type 0
IsEvent me peer n = (me' : Place) × Occurs me peer me' peer × (me'.node ≡ n)

-- so is every step of such a call, whatever is answered
abbrev pub CallsAreEvents : Type 0
CallsAreEvents =
    (me peer : Place) (seat : ℕ) (call : Call) (answer : Answer) (n : Node) → OfNoSession call
    → NodeStep seat me.node call answer n → IsEvent me peer n

-- So is every step of a call that opens a session at an unused end, under the peer's first address.
abbrev pub OpeningsAreEvents : Type 0
OpeningsAreEvents =
    (me peer : Place) (line seat : ℕ) (role : Role) (theirs : List Address) (secure : Bool) (moment : ℕ)
    (answer : Answer) (n : Node) → (me.ends line).used ≡ false → SomeOf peer.others theirs
    → NodeStep seat me.node (Open_call role (peer.first ∷ theirs) secure moment) answer n → IsEvent me peer n

-- so many events at a place, with the peer as it is
abbrev pub Occurring : ℕ → Place → Place → Place → Type 0
Occurring zero me peer me' = me' ≡ me
Occurring (suc k) me peer me' = (mid : Place) × Occurs me peer mid peer × Occurring k mid peer me'

-- the end of that line has left, and so the node came to be
pub record HasLeft (line : ℕ) (me peer : Place) (n : Node) : Type 0 where
  pub events : ℕ
  pub place : Place
  pub occurring : Occurring events me peer place
  pub is : place.node ≡ n
  pub left : (place.ends line).seat ≡ None

-- Every step of an end's leave is one or two events; behind a failing disk its session stays in the node.
abbrev pub LeavesAreEvents : Type 0
LeavesAreEvents =
    (me peer : Place) (line seat : ℕ) (answer : Answer) (n : Node) → (me.ends line).seat ≡ Some seat
    → NodeStep seat me.node Leave_call answer n → HasLeft line me peer n

-- Rows of a session.

-- a desk of that node
abbrev pub at_desk : ℕ → Node → DeskState
at_desk seat n = record { seat = seat; knows = Tells n }

-- A message is taken: where the row leaves the session open it goes on; and where it ended, or there is no memory for what
-- it says, this was its last, or the store broke in it.
pub record TakeHappens (seat : ℕ) (was : Course) (message : Message) (events : List Event) (v : Verdict) (old new : Node) : Type 0 where
  pub goes_on : StaysOpen v.outcome
      → TakeMade seat old was new (course_after was events (skipped message was.met_skip) v.after) v.said message
  pub last : TakeLast seat old was new message ⊎ TakeBreaks seat old was new message

-- the store breaks in the call of a turn, which is an event of its own, and then the turn ends at the broken node
pub record TurnBreaks (seat : ℕ) (was : Course) (old new : Node) : Type 0 where
  pub call : Call
  pub count : ℕ
  pub step : NodeStep seat old call (Refused (Disk count)) new
  pub state : new.state ≡ old.state
  pub turn : TurnLast seat new was new

-- an own turn, in the same way
pub record TurnHappens (seat : ℕ) (was : Course) (events : List Event) (v : Verdict) (old new : Node) : Type 0 where
  pub goes_on : StaysOpen v.outcome → TurnMade seat old was new (course_after was events was.met_skip v.after) v.said
  pub last : TurnLast seat old was new ⊎ TurnBreaks seat was old new

-- A row at a desk that tells its node: other seats step, the row happens, and behind it a request may be answered by files
-- that are queued. Then the desk tells the node that this leaves.
pub record RowHappens (seat : ℕ) (old : Node) (desk : DeskState) (row : Node → Node → Type 0) : Type 0 where
  pub steps : ℕ
  pub mid : Node
  pub others : OtherSteps steps seat old mid
  pub made : Node
  pub happens : row mid made
  pub behind : List Event
  pub queues : (behind ≡ []) ⊎ OneQueue behind
  pub last : Node
  pub rows : Makes seat made behind last
  pub is : desk ≡ at_desk seat last

abbrev pub TakesHappen : Type 0
TakesHappen =
    (alone : Bool) (seat : ℕ) (n : Node) (was : Course) (message : Message) (es : List Turned) (v : Verdict)
    (desk : DeskState) → TakeRow (part_at n seat) was.now message (asked_of es) v
    → DeskTurns alone (at_desk seat n) es desk
    → RowHappens seat n desk (TakeHappens seat was message (asked_of es) v)

abbrev pub TurnsHappen : Type 0
TurnsHappen =
    (alone : Bool) (block seat : ℕ) (n : Node) (was : Course) (es : List Turned) (v : Verdict) (desk : DeskState) → 0 < block
    → TurnRow block (part_at n seat) was.now (asked_of es) v → DeskTurns alone (at_desk seat n) es desk
    → RowHappens seat n desk (TurnHappens seat was (asked_of es) v)

-- Stops.

-- what a stop inside a call leaves, opened again
abbrev pub stopped_with : Durable → Opening → Node → Node
stopped_with left opening n = stopped opening (record n { state = left })

-- the calls that no row of a session makes
abbrev pub OutOfRows : Call → Type 0
OutOfRows (Open_call role peers secure moment) = Unit {0}
OutOfRows Leave_call = Unit {0}
OutOfRows call = OfNoSession call

-- some events at a place lead to that node
pub record Leads (me peer : Place) (n : Node) : Type 0 where
  pub events : ℕ
  pub place : Place
  pub occurring : Occurring events me peer place
  pub is : place.node ≡ n

-- Every stop inside such a call is some events.
abbrev pub StopsAreEvents : Type 0
StopsAreEvents =
    (me peer : Place) (seat : ℕ) (call : Call) (left : Durable) (opening : Opening) → OutOfRows call
    → Passes seat me.node call left → OpensWith left opening → Leads me peer (stopped_with left opening me.node)

-- Every stop inside the call of a row is one event: also where the row takes a message, which may be gone then.
abbrev pub TakesStop : Type 0
TakesStop =
    (me peer : Place) (line seat : ℕ) (was : Course) (message : Message) (rest : List Message) (call : Call)
    (answer : Answer) (v : Verdict) (left : Durable) (opening : Opening) → (me.ends line).seat ≡ Some seat
    → (me.ends line).course ≡ Some was → (peer.ends line).outbox ≡ message ∷ rest
    → TakeRow (part_at me.node seat) was.now message (one call answer) v → Passes seat me.node call left
    → OpensWith left opening
    → (me' : Place) × (peer' : Place) × Occurs me peer me' peer' × (me'.node ≡ stopped_with left opening me.node)

abbrev pub TurnsStop : Type 0
TurnsStop =
    (me peer : Place) (block seat : ℕ) (was : Course) (call : Call) (answer : Answer) (v : Verdict) (left : Durable)
    (opening : Opening) → TurnRow block (part_at me.node seat) was.now (one call answer) v
    → Passes seat me.node call left → OpensWith left opening
    → IsEvent me peer (stopped_with left opening me.node)
