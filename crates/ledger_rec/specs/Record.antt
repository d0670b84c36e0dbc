-- What contracts see of a `Record`.
use Rattle.std.specs.Prelude.{ℕ, Bool, List}
use Rattle.ftn_addr.specs.Address.{Address, address}
use Rattle.ftn_addr.specs.Key.{Key, key_of}
use Rattle.ledger_rec.specs.declared.record.MarkRec.{MarkRec}
use Rattle.ledger_rec.specs.declared.record.NewFileRec.{NewFileRec}
use Rattle.ledger_rec.specs.declared.record.ReceivedRec.{ReceivedRec}
use Rattle.ledger_rec.specs.declared.record.Record.{Record}
use Rattle.ledger_rec.specs.declared.record.Record.TheVariants as R
use Rattle.ledger_rec.specs.declared.record.RefusedRec.{RefusedRec}

-- records without where their addresses, keys and paths lie in memory
pub record NewFileText : Type 0 where
  pub number : ℕ
  pub dest : Address
  pub key : Key
  pub source : List ℕ
  pub action : ℕ
  pub flavour : ℕ

pub record ReceivedText : Type 0 where
  pub receipt : ℕ
  pub from : Address
  pub key : Key
  pub session : ℕ
  pub secure : Bool

pub record RefusedText : Type 0 where
  pub from : Address
  pub key : Key
  pub session : ℕ
  pub reason : ℕ

pub record MarkText : Type 0 where
  pub part : ℕ
  pub from : Address
  pub key : Key
  pub len : ℕ

pub data RecordText : Type 0 where
  Queue : (file : NewFileText) → RecordText
  Done : (number session : ℕ) → RecordText
  Received : (file : ReceivedText) → RecordText
  Refused : (file : RefusedText) → RecordText
  Mark : (mark : MarkText) → RecordText
  Taken : (take : ℕ) → RecordText
  Acted : (number : ℕ) → RecordText
  Answered : (receipt : ℕ) → RecordText

abbrev pub new_file : NewFileRec → NewFileText
new_file r = record { number = r.number; dest = address r.dest; key = key_of r.key; source = r.source.list; action = r.action; flavour = r.flavour }

abbrev pub received : ReceivedRec → ReceivedText
received r = record { receipt = r.receipt; from = address r.from; key = key_of r.key; session = r.session; secure = r.secure }

abbrev pub refused : RefusedRec → RefusedText
refused r = record { from = address r.from; key = key_of r.key; session = r.session; reason = r.reason }

abbrev pub mark : MarkRec → MarkText
mark r = record { part = r.part; from = address r.from; key = key_of r.key; len = r.length }

abbrev pub record_of : Record → RecordText
record_of (R.Queue r) = Queue (new_file r)
record_of (R.Done number session) = Done number session
record_of (R.Received r) = Received (received r)
record_of (R.Refused r) = Refused (refused r)
record_of (R.Mark r) = Mark (mark r)
record_of (R.Taken take) = Taken take
record_of (R.Acted number) = Acted number
record_of (R.Answered receipt) = Answered receipt
