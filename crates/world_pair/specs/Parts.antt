-- The parts of what holds after every run, each by a name of its own (own).
use Rattle.std.specs.Prelude.{◌≡◌, ℕ, true, Some, None, length}
use Rattle.node_model.specs.Lists.{Each}
use Rattle.node_model.specs.Node.{Hold, Session, session_at, hold_in, claim_in, taking_in}
use Rattle.node_model.specs.Rows.{refuses}
use Rattle.node_model.specs.Talk.{Sending}
use Rattle.world_pair.specs.Course.{Course}
use Rattle.world_pair.specs.World.{Place, addresses, Occurs}
use Rattle.world_pair.specs.Law.{KeysAgree, IsSettled}
use Rattle.world_pair.specs.Flow.{Idle, At, Flow, GoesOn}
use Rattle.world_pair.specs.Invariant.{EntryIs, QueueHolds, ReceiptHolds, MarkHolds, PartHolds, PeersAre, GotStands, while_talking, working_hold, working_session_of, session_of, Invariant}
use Rattle.world_pair.specs.Offers.{EachOffers, EachQueued, Accounts}

-- Each entry was queued as a file, a live one with its bytes; and each file that was queued has an entry.
pub record EntriesAreFiles (sender receiver : Place) : Type 0 where
  pub entries : QueueHolds sender.queued sender.node.state.queue
  pub files : EachQueued sender.queued sender.node.state.queue

-- Each receipt is of the sender and whole.
abbrev pub ReceiptsAreWhole : Place → Place → Type 0
ReceiptsAreWhole sender receiver = Each (ReceiptHolds sender.queued (addresses receiver) sender.first) receiver.node.state.inbox

-- Each acknowledgement under way names what stands at the receiver.
abbrev pub AcknowledgementsStand : Place → Place → Type 0
AcknowledgementsStand sender receiver = (line : ℕ)
    → Each (GotStands sender.first receiver.node.state) (receiver.ends line).outbox

-- Each mark, and each part that a working receiver holds, is the front of a queued file; and no two seats hold one key.
pub record PartsAreFronts (sender receiver : Place) : Type 0 where
  pub marks : Each (MarkHolds sender.queued (addresses receiver) sender.first) receiver.node.state.marks
  pub held : (k : ℕ) (h : Hold) → working_hold receiver.node k ≡ Some h
      → PartHolds sender.queued (addresses receiver) sender.first receiver.node.state (refuses receiver.node.settings) h
  pub apart : (j k : ℕ) (g h : Hold) → working_hold receiver.node j ≡ Some g → working_hold receiver.node k ≡ Some h
      → g.key ≡ h.key → j ≡ k

-- On each line the data under way are sections of queued files, one after another. Where the receiver takes data, they go
-- on from the bytes that it holds; and on a line that hasn't dropped the sender's next section goes on from the last.
pub record DataGoesOn (sender receiver : Place) : Type 0 where
  pub files : (line : ℕ)
      → Flow sender.queued (addresses receiver) (GoesOn (sender.ends line).dropped (sender.ends line).course) Idle (sender.ends line).outbox
  pub held : (line : ℕ) (h : Hold)
      → taking_in (while_talking (receiver.ends line).course (working_session_of receiver.node (receiver.ends line))) ≡ true
      → hold_in (while_talking (receiver.ends line).course (working_session_of receiver.node (receiver.ends line))) ≡ Some h
      → Flow sender.queued (addresses receiver) (GoesOn (sender.ends line).dropped (sender.ends line).course) (At h.key (length h.bytes)) (sender.ends line).outbox

-- Each settled entry is for the receiver, and stands there.
abbrev pub SettledStand : Place → Place → Type 0
SettledStand sender receiver = Each (IsSettled sender receiver) sender.node.state.queue

-- Each open session has the receiver as its peer. The file under way at an end is the entry that its session claims, there
-- is none once the batch ended, and each offered entry is claimed, settled or skipped.
pub record OffersAreAccounted (sender receiver : Place) : Type 0 where
  pub peers : (k : ℕ) (s : Session) → session_at sender.node k ≡ Some s → PeersAre receiver.first receiver.others s
  pub claims : (line : ℕ) (c : Course) (g : Sending) → (sender.ends line).course ≡ Some c → c.now.sending ≡ Some g
      → (claim_in (session_of sender.node (sender.ends line)) ≡ Some g.number) × EntryIs sender.node.state.queue (addresses receiver) g.number g.key
  pub ended : (line : ℕ) (c : Course) → (sender.ends line).course ≡ Some c → c.now.own_end ≡ true → c.now.sending ≡ None
  pub offers : EachOffers sender.node sender.ends

-- All of it, as events keep it: both ways, with what each place accounts for.
pub record Holds (X Y : Place) : Type 0 where
  pub invariant : Invariant X Y
  pub accounts : Accounts X
  pub accounts_there : Accounts Y

abbrev pub EventsKeep : Type 0
EventsKeep = (me peer me' peer' : Place) → Occurs me peer me' peer' → KeysAgree me peer → KeysAgree peer me
    → Holds me peer → Holds me' peer'
