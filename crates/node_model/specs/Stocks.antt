-- What a store has, with the bytes of its files or with their number alone, and how its calls change that (own).
use Rattle.std.specs.Prelude.{◌≡◌, ◌⊎◌, ℕ, Bool, true, false, ◌==◌, ◌+◌, ◌≤◌, ◌<◌, if◌then◌else◌, List, [], ◌∷◌, ◌++◌, Option, Some, None, map, length}
use Rattle.ftn_addr.specs.Address.{Address}
use Rattle.ftn_addr.specs.Files.{is_same}
use Rattle.ftn_addr.specs.Key.{Key}
use Rattle.ftn_addr.specs.declared.source_file.Action.{Action}
use Rattle.node_model.specs.declared.words.Flavour.{Flavour}
use Rattle.node_model.specs.declared.words.Known.{Known}
use Rattle.node_model.specs.declared.words.Known.TheVariants.{New as Not_known, Received, Refused}
use Rattle.node_model.specs.Items.{BodyOf, Live, Done, EntryOf, ReceiptOf, Refusal, Mark, MarkOf}
use Rattle.node_model.specs.Lists.{Member, some_passes, without, first_that}
use Rattle.node_model.specs.Durable.{DurableOf, is_received, is_refused, mark_of, mark_map, durable_map, unmarked, with_receipt, with_refusal, with_mark, with_queued}
use Rattle.node_model.specs.Node.{Record, Queue_record}
use Rattle.node_model.specs.SendRows.{Slot, New, Again, rank}

-- a file that was put under a queue number, and isn't queued yet
pub record StagedOf (B : Type 0) : Type 0 where
  pub number : ℕ
  pub content : B

-- the durable state, the open parts, each with what it has, and the staged files
pub record StockOf (B : Type 0) : Type 0 where
  pub state : DurableOf B
  pub parts : List (MarkOf B)
  pub staged : List (StagedOf B)

-- with all bytes
abbrev pub Stock : Type 0
Stock = StockOf (List ℕ)

-- with how many bytes each file has
abbrev pub Sizes : Type 0
Sizes = StockOf ℕ

-- A view of each content.

abbrev pub staged_map : {A B : Type 0} → (A → B) → StagedOf A → StagedOf B
staged_map f s = record { number = s.number; content = f s.content }

abbrev pub stock_map : {A B : Type 0} → (A → B) → StockOf A → StockOf B
stock_map f s =
    record { state = durable_map f s.state; parts = map (mark_map f) s.parts; staged = map (staged_map f) s.staged }

abbrev pub sizes : Stock → Sizes
sizes s = stock_map length s

-- What is looked up.

abbrev pub known_in : {B : Type 0} → Address → Key → DurableOf B → Known
known_in from key d = if is_received from key d then Received else if is_refused from key d then Refused else Not_known

abbrev pub part_in : {B : Type 0} → ℕ → List (MarkOf B) → Option (MarkOf B)
part_in {B} number parts = first_that (λ (p : MarkOf B). p.number == number) parts

abbrev pub part_of : {B : Type 0} → Address → Key → List (MarkOf B) → Option (MarkOf B)
part_of {B} from key parts = first_that (λ (p : MarkOf B). is_same from key p.from p.key) parts

abbrev pub staged_in : {B : Type 0} → ℕ → List (StagedOf B) → Option (StagedOf B)
staged_in {B} number staged = first_that (λ (s : StagedOf B). s.number == number) staged

-- the bytes of the part with that number, none where no such part is open
abbrev pub bytes_of_part : Option Mark → List ℕ
bytes_of_part None = []
bytes_of_part (Some p) = p.bytes

abbrev pub body_of : ℕ → Stock → List ℕ
body_of number s = bytes_of_part (part_in number s.parts)

abbrev pub is_live : {B : Type 0} → BodyOf B → Bool
is_live (Live content) = true
is_live Done = false

-- behind that one by flavour, then by number
abbrev pub IsBehind : {B : Type 0} → Option (Flavour × ℕ) → EntryOf B → Type 0
IsBehind None e = Unit {0}
IsBehind (Some at) e = (rank at.0 < rank e.flavour) ⊎ ((rank at.0 ≡ rank e.flavour) × (at.1 < e.number))

-- a live entry for that address, behind that one
pub record IsOffered {B : Type 0} (dest : Address) (after : Option (Flavour × ℕ)) (queue : List (EntryOf B)) (e : EntryOf B) : Type 0 where
  pub there : Member e queue
  pub live : is_live e.body ≡ true
  pub addressed : e.dest ≡ dest
  pub behind : IsBehind after e

-- the first of these by flavour, then by number
pub record FirstOffered {B : Type 0} (dest : Address) (after : Option (Flavour × ℕ)) (queue : List (EntryOf B)) (flavour : Flavour) (number : ℕ) : Type 0 where
  pub entry : EntryOf B
  pub offered : IsOffered dest after queue entry
  pub flavoured : entry.flavour ≡ flavour
  pub numbered : entry.number ≡ number
  pub least : (f : EntryOf B) → IsOffered dest after queue f → (rank flavour < rank f.flavour) ⊎ ((rank flavour ≡ rank f.flavour) × (number ≤ f.number))

abbrev pub NextLive : {B : Type 0} → Address → Option (Flavour × ℕ) → List (EntryOf B) → Option (Flavour × ℕ) → Type 0
NextLive dest after queue None = (f : EntryOf _) → IsOffered dest after queue f → ⊥
NextLive dest after queue (Some at) = FirstOffered dest after queue at.0 at.1

-- Parts.

-- the number of a part that is opened: that of its mark, else of the open part, else the next above the greatest drawn
abbrev pub next_part : {B : Type 0} → Option (MarkOf B) → Option (MarkOf B) → ℕ → ℕ
next_part (Some m) open_part drawn = m.number
next_part None (Some p) drawn = p.number
next_part None None drawn = drawn + 1

abbrev pub part_number : {B : Type 0} → Address → Key → ℕ → StockOf B → ℕ
part_number from key drawn s = next_part (mark_of from key s.state) (part_of from key s.parts) drawn

-- a number is drawn for it
abbrev pub draws_number : {B : Type 0} → Option (MarkOf B) → Option (MarkOf B) → Bool
draws_number None None = true
draws_number _ _ = false

-- what a part begins with: the content of its mark, or none
abbrev pub begins_with : {B : Type 0} → B → Option (MarkOf B) → B
begins_with none None = none
begins_with none (Some m) = m.bytes

-- a part is opened, in place of an open one of that sender and key
abbrev pub part_opened : {B : Type 0} → Address → Key → ℕ → B → StockOf B → StockOf B
part_opened {B} from key number none s =
    record s { parts = unmarked from key s.parts ++ record { number = number; from = from; key = key; bytes = begins_with none (mark_of from key s.state) } ∷ [] }

abbrev pub put_part : {B : Type 0} → ℕ → (B → B) → MarkOf B → MarkOf B
put_part number more p = if p.number == number then record p { bytes = more p.bytes } else p

-- more is put behind what a part has
abbrev pub part_put : {B : Type 0} → ℕ → (B → B) → StockOf B → StockOf B
part_put number more s = record s { parts = map (put_part number more) s.parts }

abbrev pub part_closed : {B : Type 0} → ℕ → StockOf B → StockOf B
part_closed {B} number s = record s { parts = without (λ (p : MarkOf B). p.number == number) s.parts }

-- the receipt of a part that has all its bytes
abbrev pub receipt_from : {B : Type 0} → MarkOf B → Bool → ReceiptOf B
receipt_from p secure =
    record { number = p.number; from = p.from; key = p.key; bytes = Some p.bytes; secure = secure; answered = false; given = false }

-- a part becomes a receipt, and is open no more
abbrev pub part_committed : {B : Type 0} → MarkOf B → Bool → StockOf B → StockOf B
part_committed p secure s = record (part_closed p.number s) { state = with_receipt (receipt_from p secure) s.state }

-- a change by the open part of that number; none where no such part is open
abbrev pub by_some : {B : Type 0} → Option (MarkOf B) → (MarkOf B → StockOf B → StockOf B) → StockOf B → StockOf B
by_some None f s = s
by_some (Some p) f s = f p s

abbrev pub by_part : {B : Type 0} → ℕ → (MarkOf B → StockOf B → StockOf B) → StockOf B → StockOf B
by_part number f s = by_some (part_in number s.parts) f s

-- what a part has is its mark
abbrev pub part_marked : {B : Type 0} → MarkOf B → StockOf B → StockOf B
part_marked p s = record s { state = with_mark p s.state }

-- the durable state alone changes
abbrev pub on_state : {B : Type 0} → (DurableOf B → DurableOf B) → StockOf B → StockOf B
on_state f s = record s { state = f s.state }

-- a sender and key are refused: their mark goes, and so does their open part
abbrev pub file_refused : {B : Type 0} → Refusal → StockOf B → StockOf B
file_refused r s = record s { state = with_refusal r s.state; parts = unmarked r.from r.key s.parts }

-- Queueing.

-- a staged file that is to be queued under its number
pub record NewEntry : Type 0 where
  pub number : ℕ
  pub dest : Address
  pub key : Key
  pub flavour : Flavour
  pub source : List ℕ
  pub action : Action

abbrev pub entry_with : {B : Type 0} → NewEntry → B → EntryOf B
entry_with f content =
    record { number = f.number; dest = f.dest; key = f.key; flavour = f.flavour; source = f.source; action = f.action; acted = false; body = Live content }

abbrev pub queued_as : {B : Type 0} → Address → Key → List (EntryOf B) → Option (EntryOf B)
queued_as {B} dest key queue = first_that (λ (e : EntryOf B). is_same dest key e.dest e.key) queue

-- behind the queue, where it was staged
abbrev pub queue_staged : {B : Type 0} → NewEntry → Option (StagedOf B) → List (EntryOf B) → List (EntryOf B)
queue_staged f None queue = queue
queue_staged f (Some s) queue = queue ++ entry_with f s.content ∷ []

-- unless its address has that key already
abbrev pub queue_unless : {B : Type 0} → NewEntry → Option (EntryOf B) → Option (StagedOf B) → List (EntryOf B) → List (EntryOf B)
queue_unless f (Some e) staged queue = queue
queue_unless f None staged queue = queue_staged f staged queue

-- the queue after one file behind another
abbrev pub queue_each : {B : Type 0} → List NewEntry → List (StagedOf B) → List (EntryOf B) → List (EntryOf B)
queue_each [] staged queue = queue
queue_each (f ∷ files) staged queue =
    queue_each files staged (queue_unless f (queued_as f.dest f.key queue) (staged_in f.number staged) queue)

abbrev pub slot_for : {B : Type 0} → NewEntry → Option (EntryOf B) → Slot
slot_for f (Some e) = Again e.number
slot_for f None = New f.number

-- how each file was queued
abbrev pub slots_of : {B : Type 0} → List NewEntry → List (StagedOf B) → List (EntryOf B) → List Slot
slots_of [] staged queue = []
slots_of (f ∷ files) staged queue =
    slot_for f (queued_as f.dest f.key queue) ∷ slots_of files staged (queue_unless f (queued_as f.dest f.key queue) (staged_in f.number staged) queue)

abbrev pub is_listed : {B : Type 0} → List NewEntry → StagedOf B → Bool
is_listed files s = some_passes (λ (f : NewEntry). f.number == s.number) files

-- the records of those that are new
abbrev pub entry_records : List NewEntry → List Slot → List Record
entry_records (f ∷ files) (New number ∷ slots) =
    Queue_record number f.dest f.key f.flavour f.source f.action ∷ entry_records files slots
entry_records (f ∷ files) (Again number ∷ slots) = entry_records files slots
entry_records [] slots = []
entry_records (f ∷ files) [] = []

-- all files are queued, and are staged no more; a request that they answer is answered
abbrev pub all_queued : {B : Type 0} → List NewEntry → Option ℕ → StockOf B → StockOf B
all_queued {B} files answered s =
    record s { state = with_queued (queue_each files s.staged s.state.queue) answered s.state; staged = without (λ (x : StagedOf B). is_listed files x) s.staged }

abbrev pub file_staged : {B : Type 0} → ℕ → B → StockOf B → StockOf B
file_staged number content s = record s { staged = s.staged ++ record { number = number; content = content } ∷ [] }
