-- Two nodes, and the lines between them (own).
use Rattle.std.specs.Prelude.{◌≡◌, ◌⊎◌, ℕ, zero, suc, Bool, true, false, List, [], ◌∷◌, ◌++◌, Option, Some, None, take, map}
use Rattle.ftn_addr.specs.Address.{Address}
use Rattle.ftn_addr.specs.Key.{Key}
use Rattle.node_model.specs.declared.words.Role.{Role}
use Rattle.node_model.specs.Lists.{updated}
use Rattle.node_model.specs.Durable.{Durable}
use Rattle.node_model.specs.Node.{Node, Opening, blank, session_at, stopped}
use Rattle.node_model.specs.SendRows.{NewFile, Slot}
use Rattle.node_model.specs.Calls.{Call, Queue_call, Open_call, Leave_call, Act_call, Give_call, Answer, Queued, Begun, Settled, Acted, Given, Refused, Disk, Made, NodeStep, marked_first}
use Rattle.node_model.specs.Lives.{OpensWith}
use Rattle.node_model.specs.Talk.{Message, Outcome, Ends, Finished}
use Rattle.world_pair.specs.Course.{Course, first_course, TakeMade, TurnMade, TakeLast, TakeBreaks, TurnLast}

-- a file that a node was given to send
pub record GivenFile : Type 0 where
  pub dest : Address
  pub key : Key
  pub bytes : List ℕ

abbrev pub given_file : NewFile → GivenFile
given_file f = record { dest = f.dest; key = f.key; bytes = f.bytes }

-- how a session came out that finished
pub record Finish : Type 0 where
  pub offered : List Key
  pub met_skip : Bool

-- One end of a line: the seat of its open session, the course of that while it may say more, and the messages that it
-- sent and that the other end hasn't taken.
pub record LineEnd : Type 0 where
  pub seat : Option ℕ
  pub course : Option Course
  pub outbox : List Message
  pub dropped : Bool
  pub finish : Option Finish
  pub used : Bool

abbrev pub unused : LineEnd
unused = record { seat = None; course = None; outbox = []; dropped = false; finish = None; used = false }

-- A node with its addresses, all files that it was given to send, and its ends, by the line's number.
pub record Place : Type 0 where
  pub first : Address
  pub others : List Address
  pub node : Node
  pub queued : List GivenFile
  pub ends : ℕ → LineEnd

abbrev pub addresses : Place → List Address
addresses p = p.first ∷ p.others

-- What an event does to an end.

-- a session opens there
abbrev pub opened : ℕ → Role → LineEnd → LineEnd
opened seat role e = record e { seat = Some seat; course = Some (first_course role); used = true }

-- what is sent on a line that dropped is lost
abbrev pub with_sent : Bool → List Message → List Message → List Message
with_sent true outbox sent = outbox
with_sent false outbox sent = outbox ++ sent

-- it says these messages, and goes on
abbrev pub says : LineEnd → Option Course → List Message → LineEnd
says e course sent = record e { course = course; outbox = with_sent e.dropped e.outbox sent }

-- it says nothing more
abbrev pub hushed : Option Finish → LineEnd → LineEnd
hushed finish e = record e { course = None; finish = finish }

-- its session is no more
abbrev pub gone : LineEnd → LineEnd
gone e = record e { seat = None; course = None }

abbrev pub with_outbox : List Message → LineEnd → LineEnd
with_outbox outbox e = record e { outbox = outbox }

-- the line drops, and of what was under way a front is left
abbrev pub cut : ℕ → LineEnd → LineEnd
cut n e = record e { outbox = take n e.outbox; dropped = true }

-- how a session came out, where this was its finish: else as before
abbrev pub finish_after : Outcome → Course → Option Finish → Option Finish
finish_after (Ends Finished) c old = Some (record { offered = c.offered; met_skip = c.met_skip })
finish_after outcome c old = old

-- What an event does to a place.

abbrev pub at_line : ℕ → LineEnd → Node → Place → Place
at_line line e n p = record p { node = n; ends = updated p.ends line e }

abbrev pub with_end : ℕ → LineEnd → Place → Place
with_end line e p = record p { ends = updated p.ends line e }

abbrev pub with_state : Durable → Node → Node
with_state d n = record n { state = d }

-- the node stops with that state and is opened again: no end has a session
abbrev pub after_stop : Opening → Node → Place → Place
after_stop opening n p = record p { node = stopped opening n; ends = λ k. gone (p.ends k) }

-- the files that a call was given to queue
abbrev pub given_by : Call → List GivenFile
given_by (Queue_call files taken answered) = map given_file files
given_by call = []

-- the calls of no session that change what is kept
abbrev pub ActsAlone : Call → Type 0
ActsAlone (Queue_call files taken answered) = Unit {0}
ActsAlone (Act_call dest) = Unit {0}
ActsAlone Give_call = Unit {0}
ActsAlone call = ⊥

-- nothing that is kept changes, nor any session
pub record Still (old new : Node) : Type 0 where
  pub state : new.state ≡ old.state
  pub settings : new.settings ≡ old.settings
  pub broken : new.broken ≡ old.broken
  pub sessions : (k : ℕ) → session_at new k ≡ session_at old k

-- some of these, in their order
pub data SomeOf : List Address → List Address → Type 0 where
  None_left : SomeOf [] []
  Takes_one : {a : Address} {all some : List Address} → SomeOf all some → SomeOf (a ∷ all) (a ∷ some)
  Leaves_one : {a : Address} {all some : List Address} → SomeOf all some → SomeOf (a ∷ all) some

-- What may happen at a node, here the first; the second is its peer. Each node step is one of `node_model`.
pub data Occurs (me peer me' peer' : Place) : Type 0 where
  -- files are queued
  Queues : (seat : ℕ) (files : List NewFile) (taken answered : Option ℕ) (slots : List Slot) (n : Node)
      → NodeStep seat me.node (Queue_call files taken answered) (Queued slots) n
      → me' ≡ record me { node = n; queued = me.queued ++ map given_file files } → peer' ≡ peer
      → Occurs me peer me' peer'
  -- a session opens at an end that wasn't used, with the peer's first address and some of its others
  Opens : (line seat number : ℕ) (n : Node) (role : Role) (theirs : List Address) (secure : Bool) (moment : ℕ)
      → (me.ends line).used ≡ false → SomeOf peer.others theirs
      → NodeStep seat me.node (Open_call role (peer.first ∷ theirs) secure moment) (Begun number) n
      → me' ≡ at_line line (opened seat role (me.ends line)) n me → peer' ≡ peer → Occurs me peer me' peer'
  -- an end makes its own turn
  Turns : (line seat : ℕ) (n : Node) (was course : Course) (sent : List Message)
      → (me.ends line).seat ≡ Some seat → (me.ends line).course ≡ Some was → TurnMade seat me.node was n course sent
      → me' ≡ at_line line (says (me.ends line) (Some course) sent) n me → peer' ≡ peer → Occurs me peer me' peer'
  -- an end takes the message in front
  Takes : (line seat : ℕ) (n : Node) (was course : Course) (sent rest : List Message) (message : Message)
      → (me.ends line).seat ≡ Some seat → (me.ends line).course ≡ Some was → (peer.ends line).outbox ≡ message ∷ rest
      → TakeMade seat me.node was n course sent message
      → me' ≡ at_line line (says (me.ends line) (Some course) sent) n me
      → peer' ≡ with_end line (with_outbox rest (peer.ends line)) peer → Occurs me peer me' peer'
  -- an end makes a turn, or takes a message, after which it says nothing more; it leaves later
  Turns_last : (line seat : ℕ) (n : Node) (was : Course)
      → (me.ends line).seat ≡ Some seat → (me.ends line).course ≡ Some was → (last : TurnLast seat me.node was n)
      → me' ≡ at_line line (hushed (finish_after last.verdict.outcome was (me.ends line).finish) (me.ends line)) n me
      → peer' ≡ peer → Occurs me peer me' peer'
  Takes_last : (line seat : ℕ) (n : Node) (was : Course) (rest : List Message) (message : Message)
      → (me.ends line).seat ≡ Some seat → (me.ends line).course ≡ Some was → (peer.ends line).outbox ≡ message ∷ rest
      → TakeLast seat me.node was n message → me' ≡ at_line line (hushed (me.ends line).finish (me.ends line)) n me
      → peer' ≡ with_end line (with_outbox rest (peer.ends line)) peer → Occurs me peer me' peer'
  -- an end takes a message, and the store breaks in that: nothing is said
  Takes_breaking : (line seat : ℕ) (n : Node) (was : Course) (rest : List Message) (message : Message)
      → (me.ends line).seat ≡ Some seat → (me.ends line).course ≡ Some was → (peer.ends line).outbox ≡ message ∷ rest
      → TakeBreaks seat me.node was n message → me' ≡ at_line line (hushed (me.ends line).finish (me.ends line)) n me
      → peer' ≡ with_end line (with_outbox rest (peer.ends line)) peer → Occurs me peer me' peer'
  -- an end leaves
  Leaves : (line seat : ℕ) (n : Node)
      → (me.ends line).seat ≡ Some seat → NodeStep seat me.node Leave_call Settled n
      → me' ≡ at_line line (gone (me.ends line)) n me → peer' ≡ peer → Occurs me peer me' peer'
  -- an end of a broken node ends, and its session stays in the node until that is opened again
  Leaves_broken : (line count : ℕ)
      → me.node.broken ≡ Some count → me' ≡ with_end line (gone (me.ends line)) me → peer' ≡ peer
      → Occurs me peer me' peer'
  -- a source is acted on, and a received file is given
  Acts : (seat number : ℕ) (dest : Address) (n : Node)
      → NodeStep seat me.node (Act_call dest) (Acted number) n → me' ≡ record me { node = n } → peer' ≡ peer
      → Occurs me peer me' peer'
  Gives : (seat number : ℕ) (n : Node)
      → NodeStep seat me.node Give_call (Given number) n → me' ≡ record me { node = n } → peer' ≡ peer
      → Occurs me peer me' peer'
  -- a call that changes nothing of this: a knock, one that finds nothing, one that is refused
  Idles : (seat : ℕ) (call : Call) (answer : Answer) (n : Node)
      → NodeStep seat me.node call answer n → Still me.node n → me' ≡ record me { node = n } → peer' ≡ peer
      → Occurs me peer me' peer'
  -- the store breaks in a call: with nothing changed but perhaps the mark of what the seat holds, or behind all that a call
  -- of no session changes
  Breaks : (seat : ℕ) (call : Call) (count : ℕ) (n : Node)
      → NodeStep seat me.node call (Refused (Disk count)) n
      → (n.state ≡ me.node.state) ⊎ (n.state ≡ marked_first seat me.node) → me' ≡ record me { node = n }
      → peer' ≡ peer → Occurs me peer me' peer'
  Breaks_behind : (seat : ℕ) (call : Call) (answer : Answer) (count : ℕ) (made n : Node)
      → ActsAlone call → me.node.broken ≡ None → Made seat me.node call answer made
      → NodeStep seat me.node call (Refused (Disk count)) n → n.state ≡ made.state
      → me' ≡ record me { node = n; queued = me.queued ++ given_by call } → peer' ≡ peer → Occurs me peer me' peer'
  -- a line drops: of what is under way each way some front is left
  Drops : (line mine theirs : ℕ)
      → me' ≡ with_end line (cut mine (me.ends line)) me → peer' ≡ with_end line (cut theirs (peer.ends line)) peer
      → Occurs me peer me' peer'
  -- the node stops: between two events; inside one, behind the mark of what the seat holds; or inside a take, behind all
  -- that this changes and before what it says
  Stops : (opening : Opening)
      → OpensWith me.node.state opening → me' ≡ after_stop opening me.node me → peer' ≡ peer
      → Occurs me peer me' peer'
  Stops_at_mark : (seat : ℕ) (opening : Opening)
      → me.node.broken ≡ None → OpensWith (marked_first seat me.node) opening
      → me' ≡ after_stop opening (with_state (marked_first seat me.node) me.node) me → peer' ≡ peer
      → Occurs me peer me' peer'
  Stops_after_take : (opening : Opening) (line seat : ℕ) (n : Node) (was course : Course) (sent rest : List Message) (message : Message)
      → (me.ends line).seat ≡ Some seat → (me.ends line).course ≡ Some was → (peer.ends line).outbox ≡ message ∷ rest
      → TakeMade seat me.node was n course sent message → OpensWith n.state opening → me' ≡ after_stop opening n me
      → peer' ≡ with_end line (with_outbox rest (peer.ends line)) peer → Occurs me peer me' peer'

pub record World : Type 0 where
  pub x : Place
  pub y : Place

-- one event, at either node
pub data Step (w v : World) : Type 0 where
  At_x : Occurs w.x w.y v.x v.y → Step w v
  At_y : Occurs w.y w.x v.y v.x → Step w v

-- so many events lead from w to v
abbrev pub Reaches : ℕ → World → World → Type 0
Reaches zero w v = v ≡ w
Reaches (suc n) w v = (mid : World) × Reaches n w mid × Step mid v

-- a node with nothing in it, opened so, with no line used
abbrev pub new_place : Address → List Address → Opening → Place
new_place first others opening =
    record { first = first; others = others; node = stopped opening blank; queued = []; ends = λ _. unused }

-- a world begins with two such nodes, under any settings
pub record Begins (w : World) : Type 0 where
  pub x_opening : Opening
  pub y_opening : Opening
  pub x_opens : OpensWith blank.state x_opening
  pub y_opens : OpensWith blank.state y_opening
  pub at_x : w.x ≡ new_place w.x.first w.x.others x_opening
  pub at_y : w.y ≡ new_place w.y.first w.y.others y_opening
