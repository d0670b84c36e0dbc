-- Durable state: what a node keeps over a stop (own).
use Rattle.std.specs.Prelude.{ℕ, Bool, true, ◌||◌, ◌==◌, nat_lt, if◌then◌else◌, List, [], ◌∷◌, ◌++◌, Option, Some, None, map, option_map, length}
use Rattle.ftn_addr.specs.Address.{Address}
use Rattle.ftn_addr.specs.Files.{is_same}
use Rattle.ftn_addr.specs.Key.{Key}
use Rattle.node_model.specs.Items.{BodyOf, Live, Done, EntryOf, ReceiptOf, Refusal, Mark, MarkOf}
use Rattle.node_model.specs.Lists.{some_passes, without, first_that}

-- what is queued, received, refused, and what came in part; marks rise by number
pub record DurableOf (B : Type 0) : Type 0 where
  pub queue : List (EntryOf B)
  pub inbox : List (ReceiptOf B)
  pub refused : List Refusal
  pub marks : List (MarkOf B)

-- with the bytes of all files
abbrev pub Durable : Type 0
Durable = DurableOf (List ℕ)

-- with their number alone
abbrev pub Outline : Type 0
Outline = DurableOf ℕ

abbrev pub nothing_kept : {B : Type 0} → DurableOf B
nothing_kept = record { queue = []; inbox = []; refused = []; marks = [] }

abbrev pub is_received : {B : Type 0} → Address → Key → DurableOf B → Bool
is_received {B} from key d = some_passes (λ (r : ReceiptOf B). is_same from key r.from r.key) d.inbox

abbrev pub is_refused : {B : Type 0} → Address → Key → DurableOf B → Bool
is_refused from key d = some_passes (λ (r : Refusal). is_same from key r.from r.key) d.refused

-- settled here: received or refused
abbrev pub is_known : {B : Type 0} → Address → Key → DurableOf B → Bool
is_known from key d = is_received from key d || is_refused from key d

abbrev pub mark_of : {B : Type 0} → Address → Key → DurableOf B → Option (MarkOf B)
mark_of {B} from key d = first_that (λ (m : MarkOf B). is_same from key m.from m.key) d.marks

abbrev pub bytes_of_mark : Option Mark → List ℕ
bytes_of_mark None = []
bytes_of_mark (Some m) = m.bytes

-- the bytes that the mark keeps, none where there is no mark
abbrev pub marked : Address → Key → Durable → List ℕ
marked from key d = bytes_of_mark (mark_of from key d)

abbrev pub unmarked : {B : Type 0} → Address → Key → List (MarkOf B) → List (MarkOf B)
unmarked {B} from key marks = without (λ (m : MarkOf B). is_same from key m.from m.key) marks

-- a mark at its place among marks that rise by number
abbrev pub in_place : {B : Type 0} → MarkOf B → List (MarkOf B) → List (MarkOf B)
in_place m [] = m ∷ []
in_place m (x ∷ xs) = if nat_lt m.number x.number then m ∷ x ∷ xs else x ∷ in_place m xs

-- the durable changes

-- a file is received, and its mark goes
abbrev pub with_receipt : {B : Type 0} → ReceiptOf B → DurableOf B → DurableOf B
with_receipt r d = record d { inbox = d.inbox ++ r ∷ []; marks = unmarked r.from r.key d.marks }

-- a file is refused, and its mark goes
abbrev pub with_refusal : {B : Type 0} → Refusal → DurableOf B → DurableOf B
with_refusal r d = record d { refused = d.refused ++ r ∷ []; marks = unmarked r.from r.key d.marks }

-- a mark, in place of the one before
abbrev pub with_mark : {B : Type 0} → MarkOf B → DurableOf B → DurableOf B
with_mark m d = record d { marks = in_place m (unmarked m.from m.key d.marks) }

abbrev pub done_entry : {B : Type 0} → ℕ → EntryOf B → EntryOf B
done_entry number e = if e.number == number then record e { body = Done } else e

abbrev pub all_done : {B : Type 0} → ℕ → List (EntryOf B) → List (EntryOf B)
all_done number queue = map (done_entry number) queue

-- a queued file is settled, and its content goes
abbrev pub with_done : {B : Type 0} → ℕ → DurableOf B → DurableOf B
with_done number d = record d { queue = all_done number d.queue }

abbrev pub acted_entry : {B : Type 0} → ℕ → EntryOf B → EntryOf B
acted_entry number e = if e.number == number then record e { acted = true } else e

abbrev pub all_acted : {B : Type 0} → ℕ → List (EntryOf B) → List (EntryOf B)
all_acted number queue = map (acted_entry number) queue

-- what was to be done with a file's source is done
abbrev pub with_acted : {B : Type 0} → ℕ → DurableOf B → DurableOf B
with_acted number d = record d { queue = all_acted number d.queue }

abbrev pub given_receipt : {B : Type 0} → ℕ → ReceiptOf B → ReceiptOf B
given_receipt number r = if r.number == number then record r { given = true } else r

abbrev pub all_given : {B : Type 0} → ℕ → List (ReceiptOf B) → List (ReceiptOf B)
all_given number inbox = map (given_receipt number) inbox

-- a received file is given
abbrev pub with_given : {B : Type 0} → ℕ → DurableOf B → DurableOf B
with_given number d = record d { inbox = all_given number d.inbox }

abbrev pub answered_receipt : {B : Type 0} → ℕ → ReceiptOf B → ReceiptOf B
answered_receipt number r = if r.number == number then record r { answered = true } else r

abbrev pub all_answered : {B : Type 0} → Option ℕ → List (ReceiptOf B) → List (ReceiptOf B)
all_answered None inbox = inbox
all_answered (Some number) inbox = map (answered_receipt number) inbox

-- files are queued, and a request that they answer is answered, in one change
abbrev pub with_queued : {B : Type 0} → List (EntryOf B) → Option ℕ → DurableOf B → DurableOf B
with_queued queue answered d = record d { queue = queue; inbox = all_answered answered d.inbox }

-- The same state with other contents: seen by a view of each.

abbrev pub body_map : {A B : Type 0} → (A → B) → BodyOf A → BodyOf B
body_map f (Live content) = Live (f content)
body_map f Done = Done

abbrev pub entry_map : {A B : Type 0} → (A → B) → EntryOf A → EntryOf B
entry_map f e =
    record { number = e.number; dest = e.dest; key = e.key; flavour = e.flavour; source = e.source; action = e.action; acted = e.acted; body = body_map f e.body }

abbrev pub receipt_map : {A B : Type 0} → (A → B) → ReceiptOf A → ReceiptOf B
receipt_map f r =
    record { number = r.number; from = r.from; key = r.key; bytes = option_map f r.bytes; secure = r.secure; answered = r.answered; given = r.given }

abbrev pub mark_map : {A B : Type 0} → (A → B) → MarkOf A → MarkOf B
mark_map f m = record { number = m.number; from = m.from; key = m.key; bytes = f m.bytes }

abbrev pub durable_map : {A B : Type 0} → (A → B) → DurableOf A → DurableOf B
durable_map f d =
    record { queue = map (entry_map f) d.queue; inbox = map (receipt_map f) d.inbox; refused = d.refused; marks = map (mark_map f) d.marks }

-- how many bytes each file has, without the bytes
abbrev pub outline : Durable → Outline
outline d = durable_map length d
