-- What the records so far leave, item by item, without where it lies in memory.
use Rattle.std.specs.Prelude.{ℕ, Bool, List}
use Rattle.ftn_addr.specs.Address.{Address, address}
use Rattle.ftn_addr.specs.Key.{Key, key_of}
use Rattle.ledger_rec.specs.declared.items.Held.{Held}
use Rattle.ledger_rec.specs.declared.items.InboxItem.{InboxItem}
use Rattle.ledger_rec.specs.declared.items.MarkItem.{MarkItem}
use Rattle.ledger_rec.specs.declared.items.QueueItem.{QueueItem}
use Rattle.ledger_rec.specs.declared.items.RefusedItem.{RefusedItem}

-- a queued file, which is live until it is done
pub record Entry : Type 0 where
  pub number : ℕ
  pub dest : Address
  pub key : Key
  pub flavour : ℕ
  pub source : List ℕ
  pub action : ℕ
  pub acted : Bool
  pub live : Bool

-- a received file
pub record Receipt : Type 0 where
  pub number : ℕ
  pub from : Address
  pub key : Key
  pub secure : Bool
  pub answered : Bool

-- a refused file
pub record Refusal : Type 0 where
  pub from : Address
  pub key : Key

-- how much of a file's front is kept
pub record PartMark : Type 0 where
  pub number : ℕ
  pub from : Address
  pub key : Key
  pub len : ℕ

-- a sender and a key that are held
pub record Hold : Type 0 where
  pub from : Address
  pub key : Key

abbrev pub entry : QueueItem → Entry
entry i = record { number = i.number; dest = address i.dest; key = key_of i.key; flavour = i.flavour; source = i.source.list; action = i.action; acted = i.acted; live = i.live }

abbrev pub receipt : InboxItem → Receipt
receipt i = record { number = i.receipt; from = address i.from; key = key_of i.key; secure = i.secure; answered = i.answered }

abbrev pub refusal : RefusedItem → Refusal
refusal i = record { from = address i.from; key = key_of i.key }

abbrev pub part_mark : MarkItem → PartMark
part_mark i = record { number = i.part; from = address i.from; key = key_of i.key; len = i.len }

abbrev pub hold : Held → Hold
hold h = record { from = address h.from; key = key_of h.key }
