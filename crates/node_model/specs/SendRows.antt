-- Node step, what is sent and what was received: files are queued, offered and settled; sources are acted on; received files
-- are given (own; FTS-5005 for flavours and actions).
use Rattle.std.specs.Prelude.{◌≡◌, ◌≢◌, ◌⊎◌, ℕ, Bool, true, false, not, ◌||◌, ◌&&◌, ◌+◌, ◌-◌, ◌≤◌, ◌<◌, List, [], ◌∷◌, ◌++◌, Option, Some, None, length, take, drop, count_by}
use Rattle.ftn_addr.specs.Address.{Address}
use Rattle.ftn_addr.specs.Files.{is_same}
use Rattle.ftn_addr.specs.Key.{Key}
use Rattle.ftn_addr.specs.declared.source_file.Action.{Action}
use Rattle.ftn_addr.specs.declared.source_file.Action.TheVariants.{Leave, Delete, Cut}
use Rattle.ftn_addr.specs.declared.limits.TheConstants.{MAX_NUMBER}
use Rattle.node_model.specs.declared.words.Flavour.{Flavour}
use Rattle.node_model.specs.declared.words.Flavour.TheVariants.{Immediate, Crash, Direct, Normal, Hold as Held_back}
use Rattle.node_model.specs.Items.{EntryOf, Entry, Live, ReceiptOf, Receipt}
use Rattle.node_model.specs.Lists.{Member, Each, some_passes}
use Rattle.node_model.specs.Durable.{with_done, with_acted, with_given, with_queued}
use Rattle.node_model.specs.Node.{Session, Node, peers, session_at, claim_in, with_session, Record, Queue_record, Done_record, Taken_record, Acted_record, Answered_record}
use Rattle.node_model.specs.Rows.{by, all_by, HasRoom, LacksRoom, ends_with}

-- Queue.

-- a file that is to be queued, and how it was queued: under a new number, or it stands there already
pub record NewFile : Type 0 where
  pub dest : Address
  pub key : Key
  pub flavour : Flavour
  pub source : List ℕ
  pub action : Action
  pub bytes : List ℕ

pub data Slot : Type 0 where
  New : (number : ℕ) → Slot
  Again : (number : ℕ) → Slot

abbrev pub is_queued : Address → Key → List Entry → Bool
is_queued dest key queue = some_passes (λ (e : Entry). is_same dest key e.dest e.key) queue

abbrev pub live_entry : ℕ → NewFile → Entry
live_entry number f = record { number = number; dest = f.dest; key = f.key; flavour = f.flavour; source = f.source; action = f.action; acted = false; body = Live f.bytes }

-- one file after another: the entry that has that address and key, or a new number above all earlier ones
pub data Enqueued : List NewFile → List Slot → List Entry → List Entry → Type 0 where
  No_more : {queue : List Entry} → Enqueued [] [] queue queue
  Stands : {f : NewFile} {files : List NewFile} {slots : List Slot} {old new : List Entry} (e : Entry) → Member e old → is_same f.dest f.key e.dest e.key ≡ true → Enqueued files slots old new → Enqueued (f ∷ files) (Again e.number ∷ slots) old new
  Fresh : {f : NewFile} {files : List NewFile} {slots : List Slot} {old new : List Entry} (number : ℕ) → is_queued f.dest f.key old ≡ false → Each (λ (e : Entry). e.number < number) old → Enqueued files slots (old ++ live_entry number f ∷ []) new → Enqueued (f ∷ files) (New number ∷ slots) old new

-- the records of the new ones
abbrev pub queue_records : List NewFile → List Slot → List Record
queue_records (f ∷ files) (New number ∷ slots) =
    Queue_record number f.dest f.key f.flavour f.source f.action ∷ queue_records files slots
queue_records (f ∷ files) (Again number ∷ slots) = queue_records files slots
queue_records [] slots = []
queue_records (f ∷ files) [] = []

abbrev pub taken_records : Option ℕ → List Record
taken_records None = []
taken_records (Some take) = Taken_record take ∷ []

abbrev pub answered_records : Option ℕ → List Record
answered_records None = []
answered_records (Some receipt) = Answered_record receipt ∷ []

-- all records of one durable change that queues files
abbrev pub queued_records : List NewFile → Option ℕ → Option ℕ → List Slot → List Record
queued_records files taken answered slots = queue_records files slots ++ taken_records taken ++ answered_records answered

-- files are queued, with the take that brought them and the request that they answer, in one durable change
pub record QueueRow (seat : ℕ) (files : List NewFile) (taken answered : Option ℕ) (slots : List Slot) (old new : Node) : Type 0 where
  pub queue : List Entry
  pub sizes : Each (λ (f : NewFile). length f.bytes ≡ f.key.size) files
  pub queued : Enqueued files slots old.state.queue queue
  pub room : HasRoom old (length (queued_records files taken answered slots))
  pub staged : ℕ
  pub numbers : Each (λ (e : Entry). e.number ≤ staged) queue
  pub risen : old.staged ≤ staged
  pub few : staged ≤ MAX_NUMBER
  pub after : new ≡ record old { state = with_queued queue answered old.state; log = old.log ++ all_by seat (queued_records files taken answered slots); records = old.records + length (queued_records files taken answered slots); staged = staged }

-- a file that isn't queued yet
abbrev pub is_new : List Entry → NewFile → Bool
is_new queue f = not (is_queued f.dest f.key queue)

-- There is no place for the records of the files that aren't queued yet, or no number for all that were staged.
pub record QueueFull (files : List NewFile) (taken answered : Option ℕ) (old : Node) : Type 0 where
  pub cause : LacksRoom old (count_by (is_new old.state.queue) files + length (taken_records taken ++ answered_records answered)) ⊎ (MAX_NUMBER < old.staged + length files)

-- Offer.

abbrev pub rank : Flavour → ℕ
rank Immediate = 0
rank Crash = 1
rank Direct = 2
rank Normal = 3
rank Held_back = 4

-- a live entry for one of the session's peers, which no seat has claimed and this session hasn't skipped
pub record Candidate (n : Node) (s : Session) (e : Entry) : Type 0 where
  pub queued : Member e n.state.queue
  pub bytes : List ℕ
  pub live : e.body ≡ Live bytes
  pub for_peer : Member e.dest (peers s)
  pub unclaimed : (seat : ℕ) → claim_in (session_at n seat) ≢ Some e.number
  pub unskipped : Member e.number s.skipped → ⊥

-- by flavour, then by number
abbrev pub Precedes : Entry → Entry → Type 0
Precedes e f = (rank e.flavour < rank f.flavour) ⊎ ((rank e.flavour ≡ rank f.flavour) × (e.number ≤ f.number))

pub record OfferFile (seat : ℕ) (e : Entry) (old new : Node) : Type 0 where
  pub session : Session
  pub has : session_at old seat ≡ Some session
  pub free : session.claim ≡ None
  pub candidate : Candidate old session e
  pub least : (f : Entry) → Candidate old session f → Precedes e f
  pub room : HasRoom old 1
  pub after : new ≡ record (with_session seat (Some (record session { claim = Some e.number; claim_places = 1 })) old) { reserved = old.reserved + 1 }

pub record OfferNothing (seat : ℕ) (old new : Node) : Type 0 where
  pub session : Session
  pub has : session_at old seat ≡ Some session
  pub free : session.claim ≡ None
  pub none : (f : Entry) → Candidate old session f → ⊥
  pub after : new ≡ old

-- there is an entry to offer, and no place for its record
pub record OfferFull (seat : ℕ) (old : Node) : Type 0 where
  pub session : Session
  pub has : session_at old seat ≡ Some session
  pub some : Entry
  pub candidate : Candidate old session some
  pub lacks : LacksRoom old 1

-- Read: the claimed bytes from a place on, as many as fit.

pub record ReadRow (seat place room : ℕ) (bytes : List ℕ) (old new : Node) : Type 0 where
  pub entry : Entry
  pub content : List ℕ
  pub claimed : claim_in (session_at old seat) ≡ Some entry.number
  pub queued : Member entry old.state.queue
  pub live : entry.body ≡ Live content
  pub section : bytes ≡ take room (drop place content)
  pub after : new ≡ old

-- Got and skip: the claim ends, and the file is settled, or not offered again in this session.

abbrev pub unclaimed : Session → Session
unclaimed s = record s { claim = None; claim_places = 0 }

pub record GotRow (seat number : ℕ) (old new : Node) : Type 0 where
  pub session : Session
  pub has : session_at old seat ≡ Some session
  pub claimed : session.claim ≡ Some number
  pub after : new ≡ record (with_session seat (Some (unclaimed session)) old) { state = with_done number old.state; log = old.log ++ by seat (Done_record number session.number); records = old.records + 1; reserved = old.reserved - session.claim_places }

-- places go back to a store that isn't broken; a broken one is opened again without them
abbrev pub left_reserved : Option ℕ → ℕ → ℕ → ℕ
left_reserved None places reserved = reserved - places
left_reserved (Some count) places reserved = reserved

pub record SkipRow (seat number : ℕ) (old new : Node) : Type 0 where
  pub session : Session
  pub has : session_at old seat ≡ Some session
  pub claimed : session.claim ≡ Some number
  pub after : new ≡ record (with_session seat (Some (record (unclaimed session) { skipped = number ∷ session.skipped })) old) { reserved = left_reserved old.broken session.claim_places old.reserved }

-- Act: the first entry of the address whose action wasn't done.

abbrev pub leaves : Action → Bool
leaves Leave = true
leaves Delete = false
leaves Cut = false

-- something is to be done with the source, and it wasn't
abbrev pub waits_for_action : {B : Type 0} → EntryOf B → Bool
waits_for_action e = not e.acted && not (leaves e.action)

-- the next entry of the address to act on
pub record NextActed {B : Type 0} (dest : Address) (number : ℕ) (queue : List (EntryOf B)) : Type 0 where
  pub entry : EntryOf B
  pub there : Member entry queue
  pub is : entry.number ≡ number
  pub addressed : entry.dest ≡ dest
  pub waits : waits_for_action entry ≡ true
  pub first_one : (e : EntryOf B) → Member e queue → e.dest ≡ dest → waits_for_action e ≡ true → number ≤ e.number

pub record ActRow (seat : ℕ) (dest : Address) (number : ℕ) (old new : Node) : Type 0 where
  pub next : NextActed dest number old.state.queue
  pub room : HasRoom old 1
  pub after : new ≡ record old { state = with_acted number old.state; log = old.log ++ by seat (Acted_record number); records = old.records + 1 }

pub record ActNothing (dest : Address) (old new : Node) : Type 0 where
  pub none : (e : Entry) → Member e old.state.queue → e.dest ≡ dest → waits_for_action e ≡ true → ⊥
  pub after : new ≡ old

-- there is an entry to act on, and no place for its record
pub record ActFull (dest : Address) (old : Node) : Type 0 where
  pub number : ℕ
  pub next : NextActed dest number old.state.queue
  pub lacks : LacksRoom old 1

-- Give: the next received file that isn't given, in a round; a request waits until it is answered.

-- a name of a request
abbrev pub is_request : Key → Bool
is_request key = ends_with key.name (46 ∷ 114 ∷ 101 ∷ 113 ∷ [])

abbrev pub may_go : {B : Type 0} → ReceiptOf B → Bool
may_go r = not r.given && (not (is_request r.key) || r.answered)

-- this one is next after the one last given or held
abbrev pub InRound : ℕ → ℕ → ℕ → Type 0
InRound last number other = ((last < number) × (((last < other) × (number ≤ other)) ⊎ (other ≤ last))) ⊎ ((number ≤ last) × (number ≤ other) × (other ≤ last))

-- the next received file that may go, after the one last given or held
pub record NextGiven {B : Type 0} (number last : ℕ) (inbox : List (ReceiptOf B)) : Type 0 where
  pub receipt : ReceiptOf B
  pub there : Member receipt inbox
  pub is : receipt.number ≡ number
  pub may : may_go receipt ≡ true
  pub least : (r : ReceiptOf B) → Member r inbox → may_go r ≡ true → InRound last number r.number

pub record GiveRow (number : ℕ) (old new : Node) : Type 0 where
  pub next : NextGiven number old.last_given old.state.inbox
  pub after : new ≡ record old { state = with_given number old.state; last_given = number }

pub record GiveHeld (number : ℕ) (old new : Node) : Type 0 where
  pub next : NextGiven number old.last_given old.state.inbox
  pub after : new ≡ record old { last_given = number }

pub record GiveNothing (old new : Node) : Type 0 where
  pub none : (r : Receipt) → Member r old.state.inbox → may_go r ≡ true → ⊥
  pub after : new ≡ old
