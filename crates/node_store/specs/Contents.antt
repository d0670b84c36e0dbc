-- What a ledger's fold stands for, where the files that belong to it have these contents: their bytes, or how many (own).
use Rattle.std.specs.Prelude.{ℕ, ◌==◌, Bool, true, [], ◌∷◌, ◌++◌, map, Option, Some, if◌then◌else◌}
use Rattle.ledger_rec.specs.Fold.{State, new_entry, new_receipt, new_refusal, new_mark}
use Rattle.ledger_rec.specs.Items as F
use Rattle.ledger_rec.specs.Record as R
use Rattle.ledger_rec.specs.Record.{RecordText}
use Rattle.node_model.specs.Durable.{DurableOf, with_done, with_receipt, with_refusal, with_mark, with_acted, all_answered}
use Rattle.node_model.specs.Items.{Live, Done, EntryOf, ReceiptOf, Refusal, MarkOf}
use Rattle.node_store.specs.Logs.{flavour_of, action_of}

-- the content of a queued file by its number and size, of a received file likewise, which may have lost it, and of the
-- front of a part by its number and length; and whether a received file was given
pub record Contents (B : Type 0) : Type 0 where
  pub queued : ℕ → ℕ → B
  pub received : ℕ → ℕ → Option B
  pub front : ℕ → ℕ → B
  pub given : ℕ → Bool

-- The items of the fold with these contents.

abbrev pub entry_by : {B : Type 0} → Contents B → F.Entry → EntryOf B
entry_by c e =
    record { number = e.number; dest = e.dest; key = e.key; flavour = flavour_of e.flavour; source = e.source; action = action_of e.action; acted = e.acted; body = if e.live then Live (c.queued e.number e.key.size) else Done }

abbrev pub receipt_by : {B : Type 0} → Contents B → F.Receipt → ReceiptOf B
receipt_by c r =
    record { number = r.number; from = r.from; key = r.key; bytes = c.received r.number r.key.size; secure = r.secure; answered = r.answered; given = c.given r.number }

abbrev pub refusal_of : F.Refusal → Refusal
refusal_of r = record { from = r.from; key = r.key }

abbrev pub mark_by : {B : Type 0} → Contents B → F.PartMark → MarkOf B
mark_by c m = record { number = m.number; from = m.from; key = m.key; bytes = c.front m.number m.len }

abbrev pub durable_by : {B : Type 0} → Contents B → State → DurableOf B
durable_by c s =
    record { queue = map (entry_by c) s.queue; inbox = map (receipt_by c) s.inbox; refused = map refusal_of s.refused; marks = map (mark_by c) s.marks }

-- The node's change of the durable state for each record.
abbrev pub durable_after : {B : Type 0} → Contents B → RecordText → DurableOf B → DurableOf B
durable_after c (R.Queue r) d = record d { queue = d.queue ++ entry_by c (new_entry r) ∷ [] }
durable_after c (R.Done number session) d = with_done number d
durable_after c (R.Received r) d = with_receipt (receipt_by c (new_receipt r)) d
durable_after c (R.Refused r) d = with_refusal (refusal_of (new_refusal r)) d
durable_after c (R.Mark r) d = with_mark (mark_by c (new_mark r)) d
durable_after c (R.Taken take) d = d
durable_after c (R.Acted number) d = with_acted number d
durable_after c (R.Answered receipt) d = record d { inbox = all_answered (Some receipt) d.inbox }

-- a received file was given, whatever a record says
abbrev pub with_given : {B : Type 0} → ℕ → Contents B → Contents B
with_given number c = record c { given = λ k. if k == number then true else c.given k }
