-- What every event keeps, part by part, from a sender to a receiver (own).
use Rattle.std.specs.Prelude.{◌≡◌, ◌⊎◌, ℕ, Bool, true, false, List, Option, Some, None, length}
use Rattle.ftn_addr.specs.Address.{Address}
use Rattle.ftn_addr.specs.Key.{Key}
use Rattle.node_model.specs.Lists.{Member, Each}
use Rattle.node_model.specs.Items.{Live, Done, Entry, Receipt, Mark}
use Rattle.node_model.specs.Durable.{Durable, is_known}
use Rattle.node_model.specs.Node.{Hold, Session, Node, session_at, hold_in, claim_in, taking_in}
use Rattle.node_model.specs.Rows.{refuses}
use Rattle.node_model.specs.Sound.{Distinct, same_receipt}
use Rattle.node_model.specs.Talk.{Sending, Message, File, Data, Got, Get, Skip, End}
use Rattle.world_pair.specs.Course.{Course}
use Rattle.world_pair.specs.World.{GivenFile, Finish, LineEnd, Place, addresses}
use Rattle.world_pair.specs.Law.{WasQueued}
use Rattle.world_pair.specs.Flow.{Front, Idle, At, Flow, GoesOn}

-- The sender's queue.

abbrev pub given_as : Entry → List ℕ → GivenFile
given_as e bytes = record { dest = e.dest; key = e.key; bytes = bytes }

-- the entries with that number have that key and are for the receiver, and there is one
pub record EntryIs (queue : List Entry) (dests : List Address) (number : ℕ) (key : Key) : Type 0 where
  pub entry : Entry
  pub there : Member entry queue
  pub numbered : entry.number ≡ number
  pub each : (e : Entry) → Member e queue → e.number ≡ number → (e.key ≡ key) × Member e.dest dests

-- Files have the sizes of their keys; each entry was queued as a file, a live one with its bytes; and entries with one
-- number are of one file.
pub record QueueHolds (files : List GivenFile) (queue : List Entry) : Type 0 where
  pub sizes : Each (λ (f : GivenFile). length f.bytes ≡ f.key.size) files
  pub listed : (e : Entry) → Member e queue → (bytes : List ℕ) × Member (given_as e bytes) files
  pub live : (e : Entry) (bytes : List ℕ) → Member e queue → e.body ≡ Live bytes → Member (given_as e bytes) files
  pub numbers : (e f : Entry) → Member e queue → Member f queue → e.number ≡ f.number
      → (e.key ≡ f.key) × (e.dest ≡ f.dest)

-- a settled entry is for the receiver, and stands there
abbrev pub SettledStands : List Address → Address → Durable → Entry → Type 0
SettledStands dests from kept e = e.body ≡ Done → Member e.dest dests × (is_known from e.key kept ≡ true)

-- What the receiver keeps.

-- a receipt is of the sender and has the bytes of a queued file
pub record ReceiptHolds (files : List GivenFile) (dests : List Address) (from : Address) (r : Receipt) : Type 0 where
  pub from_is : r.from ≡ from
  pub bytes : List ℕ
  pub kept : r.bytes ≡ Some bytes
  pub queued : WasQueued files dests r.key bytes

-- a mark is of the sender and the front of a queued file
pub record MarkHolds (files : List GivenFile) (dests : List Address) (from : Address) (m : Mark) : Type 0 where
  pub from_is : m.from ≡ from
  pub front : Front files dests m.key m.bytes

-- so is a held part, of a file that is neither settled nor refused by the settings
pub record PartHolds (files : List GivenFile) (dests : List Address) (from : Address) (d : Durable) (refuse : Key → Bool) (h : Hold) : Type 0 where
  pub from_is : h.from ≡ from
  pub unknown : is_known from h.key d ≡ false
  pub wanted : refuse h.key ≡ false
  pub front : Front files dests h.key h.bytes

-- all that the receiver keeps, and no key is held by two seats
pub record InboxHolds (files : List GivenFile) (dests : List Address) (from : Address) (refuse : Key → Bool) (d : Durable) (holds : ℕ → Option Hold) : Type 0 where
  pub once : Distinct same_receipt d.inbox
  pub items : Each (ReceiptHolds files dests from) d.inbox
  pub marks : Each (MarkHolds files dests from) d.marks
  pub each_hold : (k : ℕ) (h : Hold) → holds k ≡ Some h → PartHolds files dests from d refuse h
  pub apart : (j k : ℕ) (g h : Hold) → holds j ≡ Some g → holds k ≡ Some h → g.key ≡ h.key → j ≡ k

-- Sessions and ends.

-- a session's peer is the other node, by its first address
pub record PeersAre (first : Address) (others : List Address) (s : Session) : Type 0 where
  pub first_is : s.first ≡ first
  pub others_are : Each (λ a. Member a others) s.others

-- nothing is said of what a broken node holds
abbrev pub unless_broken : {A : Type 0} → Option ℕ → Option A → Option A
unless_broken None x = x
unless_broken (Some count) x = None

abbrev pub working_session : Node → ℕ → Option Session
working_session n k = unless_broken n.broken (session_at n k)

abbrev pub working_hold : Node → ℕ → Option Hold
working_hold n k = hold_in (working_session n k)

-- the session of an end, by its seat
abbrev pub sits_at : Node → Option ℕ → Option Session
sits_at n None = None
sits_at n (Some seat) = session_at n seat

abbrev pub session_of : Node → LineEnd → Option Session
session_of n e = sits_at n e.seat

abbrev pub working_session_of : Node → LineEnd → Option Session
working_session_of n e = unless_broken n.broken (session_of n e)

-- the session of an end, while that may say more
abbrev pub while_talking : Option Course → Option Session → Option Session
while_talking None s = None
while_talking (Some c) s = s

-- the seat has an open session
abbrev pub Occupied : Node → ℕ → Type 0
Occupied n seat = (s : Session) × (session_at n seat ≡ Some s)

-- each end that sits has an open session, and no two sit at one seat
pub record Seated (n : Node) (ends : ℕ → LineEnd) : Type 0 where
  pub open_there : (line seat : ℕ) → (ends line).seat ≡ Some seat → Occupied n seat
  pub apart : (j k seat : ℕ) → (ends j).seat ≡ Some seat → (ends k).seat ≡ Some seat → j ≡ k

-- A line, from the end of the sender to that of the receiver.

-- an acknowledgement under way names what stands at the receiver
abbrev pub GotStands : Address → Durable → Message → Type 0
GotStands from kept (Got key) = is_known from key kept ≡ true
GotStands from kept (File key offset) = Unit {0}
GotStands from kept (Data bytes) = Unit {0}
GotStands from kept (Get key offset) = Unit {0}
GotStands from kept (Skip key) = Unit {0}
GotStands from kept End = Unit {0}

-- an offered file is the one under way, or stands there
abbrev pub OnItsWay : Option Sending → Address → Durable → Key → Type 0
OnItsWay sending from kept key = ((s : Sending) × (sending ≡ Some s) × (s.key ≡ key)) ⊎ (is_known from key kept ≡ true)

-- what a session offered that finished without a Skip stands there
abbrev pub FinishStood : Address → Durable → Option Finish → Type 0
FinishStood from kept None = Unit {0}
FinishStood from kept (Some f) = f.met_skip ≡ false → Each (λ key. is_known from key kept ≡ true) f.offered

-- Of the sender's end: the file under way is the entry that its session claims, none is once it ended its batch, and what it
-- offered is on its way. Of the receiver's: its acknowledgements stand. The data under way are sections of queued files, and
-- where the receiver takes data they go on from the bytes that it holds.
pub record LineHolds (files : List GivenFile) (dests : List Address) (from : Address) (queue : List Entry) (kept : Durable) (e : LineEnd) (s : Option Session) (f : LineEnd) (r : Option Session) : Type 0 where
  pub claims : (c : Course) (g : Sending) → e.course ≡ Some c → c.now.sending ≡ Some g
      → (claim_in s ≡ Some g.number) × EntryIs queue dests g.number g.key
  pub ended : (c : Course) → e.course ≡ Some c → c.now.own_end ≡ true → c.now.sending ≡ None
  pub offered : (c : Course) → e.course ≡ Some c → c.met_skip ≡ false
      → Each (OnItsWay c.now.sending from kept) c.offered
  pub finished : FinishStood from kept e.finish
  pub gots : Each (GotStands from kept) f.outbox
  pub flow : Flow files dests (GoesOn e.dropped e.course) Idle e.outbox
  pub taken : (h : Hold) → taking_in (while_talking f.course r) ≡ true → hold_in (while_talking f.course r) ≡ Some h
      → Flow files dests (GoesOn e.dropped e.course) (At h.key (length h.bytes)) e.outbox

-- All that holds from the node X, as the sender of files, to the node Y, as their receiver.
pub record Carries (X Y : Place) : Type 0 where
  pub outbound : QueueHolds X.queued X.node.state.queue
  pub peers : (k : ℕ) (s : Session) → session_at X.node k ≡ Some s → PeersAre Y.first Y.others s
  pub inbound : InboxHolds X.queued (addresses Y) X.first (refuses Y.node.settings) Y.node.state (working_hold Y.node)
  pub settled : Each (SettledStands (addresses Y) X.first Y.node.state) X.node.state.queue
  pub lines : (k : ℕ)
      → LineHolds X.queued (addresses Y) X.first X.node.state.queue Y.node.state (X.ends k) (session_of X.node (X.ends k)) (Y.ends k) (working_session_of Y.node (Y.ends k))

-- both ways, and where the ends sit
pub record Invariant (X Y : Place) : Type 0 where
  pub out : Carries X Y
  pub back : Carries Y X
  pub sits : Seated X.node X.ends
  pub sits_there : Seated Y.node Y.ends
