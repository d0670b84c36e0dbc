-- The law of two nodes: what holds after every run of them (own).
use Rattle.std.specs.Prelude.{◌≡◌, ℕ, true, false, List, [], ◌∷◌, Option, Some, None, if◌then◌else◌}
use Rattle.ftn_addr.specs.Address.{Address, same_address}
use Rattle.ftn_addr.specs.Key.{Key}
use Rattle.node_model.specs.Lists.{Member, Each}
use Rattle.node_model.specs.Items.{Entry, Receipt, Done}
use Rattle.node_model.specs.Durable.{is_known}
use Rattle.node_model.specs.Receipts.{OnceEach}
use Rattle.world_pair.specs.World.{GivenFile, Finish, Place, addresses, World, Reaches, Begins}

-- the inbound history of a sender: what was received from it
abbrev pub history : Address → List Receipt → List Receipt
history from [] = []
history from (r ∷ rs) = if same_address from r.from then r ∷ history from rs else history from rs

-- these bytes were queued under that key for one of the addresses
pub record WasQueued (files : List GivenFile) (dests : List Address) (key : Key) (bytes : List ℕ) : Type 0 where
  pub file : GivenFile
  pub queued : Member file files
  pub dest : Member file.dest dests
  pub key_is : file.key ≡ key
  pub bytes_are : file.bytes ≡ bytes

-- a receipt has the bytes that the sender queued under its key for the receiver
pub record IsWhole (sender receiver : Place) (r : Receipt) : Type 0 where
  pub bytes : List ℕ
  pub kept : r.bytes ≡ Some bytes
  pub queued : WasQueued sender.queued (addresses receiver) r.key bytes

-- The premise: files that the sender queued for the receiver under equal keys have equal bytes.
abbrev pub KeysAgree : Place → Place → Type 0
KeysAgree sender receiver = (f g : GivenFile) → Member f sender.queued → Member g sender.queued
    → Member f.dest (addresses receiver) → Member g.dest (addresses receiver) → f.key ≡ g.key → f.bytes ≡ g.bytes

-- Each queued file was received at most once, and what was received is whole.
pub record OneReceipt (sender receiver : Place) : Type 0 where
  pub once : OnceEach (history sender.first receiver.node.state.inbox)
  pub whole : Each (IsWhole sender receiver) (history sender.first receiver.node.state.inbox)

-- the key stands at the receiver: received or refused there
abbrev pub StandsThere : Place → Place → Key → Type 0
StandsThere sender receiver key = is_known sender.first key receiver.node.state ≡ true

-- a settled entry is for the receiver, and stands there
abbrev pub IsSettled : Place → Place → Entry → Type 0
IsSettled sender receiver e = e.body ≡ Done → Member e.dest (addresses receiver) × StandsThere sender receiver e.key

-- where both ends of a session finished and took no Skip, each file that was offered stands there
abbrev pub FinishStands : Option Finish → Option Finish → Place → Place → Type 0
FinishStands (Some mine) (Some theirs) sender receiver = mine.met_skip ≡ false → theirs.met_skip ≡ false
    → Each (StandsThere sender receiver) mine.offered
FinishStands (Some mine) None sender receiver = Unit {0}
FinishStands None theirs sender receiver = Unit {0}

-- An entry is settled only once its file stands at the receiver, and a session that both ends finish without a Skip
-- leaves every offered file there.
pub record Delivers (sender receiver : Place) : Type 0 where
  pub settled : Each (IsSettled sender receiver) sender.node.state.queue
  pub finished : (line : ℕ) → FinishStands (sender.ends line).finish (receiver.ends line).finish sender receiver

-- after every run in which equal keys mean equal bytes, each way
abbrev pub AfterEveryRun : (Place → Place → Type 0) → Type 0
AfterEveryRun P = (n : ℕ) (w v : World) → Begins w → Reaches n w v → KeysAgree v.x v.y → KeysAgree v.y v.x
    → P v.x v.y × P v.y v.x

abbrev pub OneReceiptLaw : Type 0
OneReceiptLaw = AfterEveryRun OneReceipt

abbrev pub PairLaw : Type 0
PairLaw = AfterEveryRun Delivers
