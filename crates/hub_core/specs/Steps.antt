-- What a hub's calls do with its store, before they are told as steps of the node (own).
use Rattle.std.specs.Prelude.{◌≡◌, ◌≢◌, ◌⊎◌, ℕ, Bool, true, false, ◌==◌, ◌+◌, ◌-◌, ◌<◌, ◌≤◌, nat_le, if◌then◌else◌, List, [], ◌∷◌, Option, Some, None, length}
use Rattle.ftn_addr.specs.Address.{Address}
use Rattle.ftn_addr.specs.Counts.{Increased, next_count}
use Rattle.ftn_addr.specs.Files.{is_same}
use Rattle.ftn_addr.specs.Key.{Key, same_key}
use Rattle.node_model.specs.declared.words.Known.{Known}
use Rattle.node_model.specs.declared.words.Known.TheVariants.{New, Received, Refused}
use Rattle.std.specs.List.{list_any}
use Rattle.ftn_addr.specs.declared.limits.TheConstants.{MAX_NUMBER}
use Rattle.node_model.specs.declared.words.TheConstants.{MOST_RECORDS}
use Rattle.node_model.specs.declared.store.StoreFault.{StoreFault}
use Rattle.node_model.specs.declared.store.StoreFault.TheVariants.{Disk, Read, Full, NoMemory}
use Rattle.node_model.specs.declared.desk.FileIn.{FileIn}
use Rattle.node_model.specs.declared.desk.FileIn.TheVariants as F
use Rattle.node_model.specs.Items.{MarkOf}
use Rattle.node_model.specs.Lists.{Member}
use Rattle.node_model.specs.Durable.{mark_of}
use Rattle.node_model.specs.Rows.{FileAnswer, Have, Refuse, Elsewhere, Go, Whole, From, Late, stride, places_for, is_answering, refuses}
use Rattle.node_model.specs.Calls.{Logs, Fault}
use Rattle.node_model.specs.Calls as C
use Rattle.node_model.specs.Stocks.{known_in, part_in, part_of, part_number, draws_number, begins_with}
use Rattle.node_model.specs.Stores.{Shelf, Stored, StoreState, StoreStand, IsShelf, OpensShelf, TellsOn, shelf_of, opened, with_bytes, marked_part, committed, refused}
use Rattle.hub_core.specs.declared.places.Place.{Place}
use Rattle.hub_core.specs.Hubs.{Taking, Sitting, Chair, HubState, chair_in, chair_of, claim_places_of, IsSettled}

-- no image of an earlier moment is new, and each since is such a shelf
pub record Leaves (P : Shelf → Type 0) (old new : StoreStand) : Type 0 where
  pub later : old.moment ≤ new.moment
  pub before : (k : ℕ) (d : Option Shelf) → k ≤ old.moment → new.images k d → old.images k d
  pub since : (k : ℕ) (d : Option Shelf) → old.moment < k → k ≤ new.moment → new.images k d → OpensShelf P d

-- where each image was what the store keeps, it is so now, unless the disk failed
abbrev pub StaysSettled : StoreStand → StoreStand → Type 0
StaysSettled old new = IsSettled old → new.state.counts.broken ≡ None → IsSettled new

-- these parts are open, and this doesn't lose them
abbrev pub Stays : (MarkOf ℕ → Bool) → StoreState → MarkOf ℕ → Type 0
Stays loses s p = Member p s.stock.parts × (loses p ≡ false)

-- The disk failed: the count rose, and the store is broken. Its seat stays. Where it tells, such a shelf is left, the log
-- went on with records of this seat alone, and the other parts have their bytes.
pub record Broke (P : Shelf → Type 0) (loses : MarkOf ℕ → Bool) (old new : StoreState) : Type 0 where
  pub rose : Increased old.counts.faults new.counts.faults
  pub counts : new.counts ≡ record old.counts { faults = new.counts.faults; broken = Some new.counts.faults }
  pub content : TellsOn (λ a b. P (shelf_of b) × Logs old.seat a.log b.log × ((p : MarkOf ℕ) → Stays loses old p → part_in p.number b.stock.parts ≡ part_in p.number a.stock.parts)) old.content new.content
  pub seat : new.seat ≡ old.seat

-- the disk is the one cause
abbrev pub BrokeBy : (Shelf → Type 0) → (MarkOf ℕ → Bool) → StoreFault → StoreState → StoreState → Type 0
BrokeBy P loses Disk old new = Broke P loses old new
BrokeBy P loses _ old new = ⊥

-- a refusal for want of place is counted
abbrev pub counted_full : StoreState → StoreState
counted_full s = record s { counts = record s.counts { fulls = next_count s.counts.fulls } }

-- the store refused, for want of place by that cause
abbrev pub RefusedBy : (Shelf → Type 0) → (MarkOf ℕ → Bool) → Type 0 → StoreFault → StoreState → StoreState → Type 0
RefusedBy P loses cause Disk old new = Broke P loses old new
RefusedBy P loses cause Read old new = ⊥
RefusedBy P loses cause Full old new = cause × (new ≡ counted_full old)
RefusedBy P loses cause NoMemory old new = new ≡ old

-- one of the shelves that are told
abbrev pub OneOf : List (Option Stored) → Shelf → Type 0
OneOf [] d = ⊥
OneOf (c ∷ cs) d = IsShelf c d ⊎ OneOf cs d

-- the shelf of before, or, where that may be, the one that is made
abbrev pub OneMade : Option Stored → Type 0 → Option Stored → Shelf → Type 0
OneMade c may e d = IsShelf c d ⊎ (may × IsShelf e d)

-- Parts.

abbrev pub part_under : Address → Taking → MarkOf ℕ
part_under from t = record { number = t.part; from = from; key = t.key; bytes = t.have }

-- how many bytes the mark has
abbrev pub mark_len : Address → Key → StoreState → ℕ
mark_len from key s = begins_with 0 (mark_of from key s.stock.state)

-- a held file is open in the store, and its places are reserved
pub record Holds (s : StoreState) (from : Address) (t : Taking) : Type 0 where
  pub part : part_in t.part s.stock.parts ≡ Some (part_under from t)
  pub fits : t.have ≤ t.key.size
  pub place : 0 < t.places
  pub reserved : t.places ≤ s.reserved

abbrev pub IfHolds : StoreState → Address → Option Taking → Type 0
IfHolds s from None = Unit {0}
IfHolds s from (Some t) = Holds s from t

abbrev pub reserved_more : ℕ → StoreState → StoreState
reserved_more n s = record s { reserved = s.reserved + n }

abbrev pub given_back : ℕ → StoreState → StoreState
given_back n s = record s { reserved = s.reserved - n }

-- what is held is marked, and its places go back
abbrev pub hold_ended : Address → Taking → StoreState → StoreState
hold_ended from t s = record (marked_part (part_under from t) s) { reserved = s.reserved - t.places }

abbrev pub ended : Address → Option Taking → StoreState → StoreState
ended from None s = s
ended from (Some t) s = hold_ended from t s

-- a session ends: what it holds, and the place of its claim
abbrev pub left_state : Sitting → StoreState → StoreState
left_state x s = given_back (claim_places_of x.claim) (ended x.first x.hold s)

-- the part that ends
abbrev pub is_part : ℕ → MarkOf ℕ → Bool
is_part number p = p.number == number

abbrev pub is_file : Address → Key → MarkOf ℕ → Bool
is_file from key p = is_same from key p.from p.key

abbrev pub loses_none : MarkOf ℕ → Bool
loses_none p = false

-- a part is opened under places of its own
abbrev pub opened_under : Address → Key → ℕ → StoreState → StoreState
opened_under from key places s = opened from key (reserved_more places s)

-- no place, or no number
abbrev pub OpensFull : Address → Key → ℕ → StoreState → Type 0
OpensFull from key places s =
    (MOST_RECORDS < s.records + s.reserved + places)
    ⊎ ((draws_number (mark_of from key s.stock.state) (part_of from key s.stock.parts) ≡ true) × (s.drawn ≡ MAX_NUMBER))

-- a part is open under that number, with what its mark has
pub record OpensUnder (from : Address) (key : Key) (places number len : ℕ) (old new : StoreState) : Type 0 where
  pub number_is : number ≡ part_number from key old.drawn old.stock
  pub len_is : len ≡ mark_len from key old
  pub few : number ≤ MAX_NUMBER
  pub room : old.records + old.reserved + places ≤ MOST_RECORDS
  pub after : new ≡ opened_under from key places old

-- the part with all its bytes that is opened by a mark becomes a receipt
abbrev pub whole_under : Address → Key → ℕ → StoreState → MarkOf ℕ
whole_under from key number s = record { number = number; from = from; key = key; bytes = mark_len from key s }

-- the part that is opened for it becomes a receipt
abbrev pub received_whole : Address → Key → ℕ → Bool → StoreState → StoreState
received_whole from key session secure s =
    committed (whole_under from key (part_number from key s.drawn s.stock) s) session secure (opened_under from key 1 s)

-- there are a number and a place for it
pub record MayOpen (from : Address) (key : Key) (places : ℕ) (s : StoreState) : Type 0 where
  pub few : part_number from key s.drawn s.stock ≤ MAX_NUMBER
  pub room : s.records + s.reserved + places ≤ MOST_RECORDS

pub record ReceivesWhole (from : Address) (key : Key) (session : ℕ) (secure : Bool) (old new : StoreState) : Type 0 where
  pub may : MayOpen from key 1 old
  pub after : new ≡ received_whole from key session secure old

-- the part that is opened is found under its number, which no other file's has
pub record OpensWhole (from : Address) (key : Key) (s : StoreState) : Type 0 where
  pub found : part_in (part_number from key s.drawn s.stock) (opened_under from key 1 s).stock.parts ≡ Some (whole_under from key (part_number from key s.drawn s.stock) s)
  pub apart : (p : MarkOf ℕ) → Member p s.stock.parts → is_file from key p ≡ false → p.number ≢ part_number from key s.drawn s.stock

-- the part of a held file becomes a receipt, and the places that it didn't use go back
abbrev pub hold_received : Address → Taking → ℕ → Bool → StoreState → StoreState
hold_received from t session secure s = record (committed (part_under from t) session secure s) { reserved = s.reserved - t.places }

-- a held file with all its bytes, and one of which more came
abbrev pub whole_taking : Taking → Taking
whole_taking t = record t { have = t.key.size }

abbrev pub more_taking : ℕ → Taking → Taking
more_taking n t = record t { have = t.have + n }

-- the last bytes are put, and the part becomes a receipt
abbrev pub put_received : Address → Taking → List ℕ → ℕ → Bool → StoreState → StoreState
put_received from t bytes session secure s = hold_received from (whole_taking t) session secure (with_bytes t.part bytes s)

-- the unmarked bytes reach the stride
abbrev pub reaches : Address → Taking → StoreState → Bool
reaches from t s = nat_le (mark_len from t.key s + stride t.key.size) t.have

abbrev pub marked_if : Bool → MarkOf ℕ → StoreState → StoreState
marked_if b p s = if b then marked_part p s else s

-- bytes are put, and at a stride the part is marked
abbrev pub put_marked : Address → Taking → List ℕ → StoreState → StoreState
put_marked from t bytes s =
    marked_if (reaches from (more_taking (length bytes) t) (with_bytes t.part bytes s)) (part_under from (more_taking (length bytes) t)) (with_bytes t.part bytes s)

-- a file is refused under a place of its own
abbrev pub file_refused_under : Address → Key → ℕ → ℕ → StoreState → StoreState
file_refused_under from key session reason s = refused (record { from = from; key = key }) session reason (reserved_more 1 s)

abbrev pub HasOne : StoreState → Type 0
HasOne s = s.records + s.reserved + 1 ≤ MOST_RECORDS

pub record RefusesFile (from : Address) (key : Key) (session reason : ℕ) (old new : StoreState) : Type 0 where
  pub room : HasOne old
  pub after : new ≡ file_refused_under from key session reason old

abbrev pub LacksOne : StoreState → Type 0
LacksOne s = MOST_RECORDS < s.records + s.reserved + 1

-- the places that a file wants, from its mark on
abbrev pub places_from : Address → Key → StoreState → ℕ
places_from from key s = places_for (mark_len from key s) key.size

abbrev pub taken_up : Address → Key → Bool → StoreState → Taking
taken_up from key taking s =
    record { part = part_number from key s.drawn s.stock; key = key; have = mark_len from key s; taking = taking; places = places_from from key s; dropped = false }

-- the session holds the file, whose part is open under its places
pub record TakesUp (key : Key) (taking : Bool) (old : StoreState) (x : Sitting) (new : StoreState) (y : Sitting) : Type 0 where
  pub may : MayOpen x.first key (places_from x.first key old) old
  pub after : new ≡ opened_under x.first key (places_from x.first key old) old
  pub holds : y ≡ record x { hold = Some (taken_up x.first key taking old) }

-- the same, and the key is noted, while no data is taken
pub record NotesMissed (key : Key) (old : StoreState) (x : Sitting) (new : StoreState) (y : Sitting) : Type 0 where
  pub may : MayOpen x.first key (places_from x.first key old) old
  pub after : new ≡ opened_under x.first key (places_from x.first key old) old
  pub holds : y ≡ record x { hold = Some (taken_up x.first key false old); missed = key ∷ x.missed }

-- why a desk refuses, where its store refused and has so many faults
abbrev pub fault_in : StoreFault → ℕ → Fault
fault_in Disk count = C.Disk count
fault_in Read count = C.Read count
fault_in Full count = C.Full
fault_in NoMemory count = C.No_memory

abbrev pub word_of : FileIn → FileAnswer
word_of F.Go = Go
word_of F.Whole = Whole
word_of F.Have = Have
word_of F.Refuse = Refuse
word_of F.Elsewhere = Elsewhere
word_of (F.From place) = From place
word_of F.Late = Late

-- Other seats.

-- the session holds that file of that sender
abbrev pub sits_on : Address → Key → Address → Option Taking → Bool
sits_on from key first None = false
sits_on from key first (Some t) = is_same from key first t.key

abbrev pub sitting_holds : Address → Key → Option Sitting → Bool
sitting_holds from key None = false
sitting_holds from key (Some x) = sits_on from key x.first x.hold

abbrev pub chair_holds : Address → Key → Chair → Bool
chair_holds from key c = sitting_holds from key c.sitting

-- another seat's session holds that file of that sender
pub record HeldBy (chairs : List Chair) (seat : ℕ) (from : Address) (key : Key) : Type 0 where
  pub other : ℕ
  pub apart : other ≢ seat
  pub holds : chair_holds from key (chair_in chairs other) ≡ true

abbrev pub sitting_answers : Option Sitting → Bool
sitting_answers None = false
sitting_answers (Some x) = is_answering x.role

-- an answering session is open there
abbrev pub chair_answers : Chair → Bool
chair_answers c = sitting_answers c.sitting

-- the same of a place in the code
unfoldable pub place_answers : Place → Bool
place_answers p = chair_answers (chair_of p)

-- What is answered to a file.

abbrev pub is_new : Known → Bool
is_new New = true
is_new Received = false
is_new Refused = false

-- neither settled, nor refused by the settings, nor held by another seat
pub record MayBeTaken (seat : ℕ) (x : Sitting) (key : Key) (s : StoreState) (h : HubState) : Type 0 where
  pub unknown : is_new (known_in x.first key s.stock.state) ≡ true
  pub wanted : refuses h.settings key ≡ false
  pub free : HeldBy h.chairs seat x.first key → ⊥

abbrev pub was_missed : Key → Sitting → Bool
was_missed key x = list_any (λ k. same_key key k) x.missed

abbrev pub Judged : ℕ → Sitting → Key → ℕ → FileIn → StoreState → HubState → Type 0
Judged seat x key offset F.Have s h = is_new (known_in x.first key s.stock.state) ≡ false
Judged seat x key offset F.Refuse s h = (is_new (known_in x.first key s.stock.state) ≡ true) × (refuses h.settings key ≡ true)
Judged seat x key offset F.Elsewhere s h =
    (is_new (known_in x.first key s.stock.state) ≡ true) × (refuses h.settings key ≡ false) × HeldBy h.chairs seat x.first key
Judged seat x key offset F.Go s h = MayBeTaken seat x key s h × (offset ≡ mark_len x.first key s) × (offset < key.size)
Judged seat x key offset F.Whole s h = MayBeTaken seat x key s h × (offset ≡ mark_len x.first key s) × (key.size ≤ offset)
Judged seat x key offset (F.From place) s h =
    MayBeTaken seat x key s h × (place ≡ mark_len x.first key s) × (offset ≢ place) × (was_missed key x ≡ false)
Judged seat x key offset F.Late s h = MayBeTaken seat x key s h × (offset ≢ mark_len x.first key s) × (was_missed key x ≡ true)

-- What is done with a file once that is judged.

-- the state that the answer makes
abbrev pub answered_state : FileIn → Key → ℕ → Sitting → StoreState → StoreState
answered_state F.Refuse key reason x s = file_refused_under x.first key x.number reason s
answered_state F.Whole key reason x s = received_whole x.first key x.number x.secure s
answered_state _ key reason x s = s

-- where it may
abbrev pub MayBeMade : FileIn → Key → Sitting → StoreState → Type 0
MayBeMade F.Refuse key x s = HasOne s
MayBeMade F.Whole key x s = MayOpen x.first key 1 s
MayBeMade _ key x s = ⊥

-- what it finds no place or number for
abbrev pub FindsNone : FileIn → Key → Sitting → StoreState → Type 0
FindsNone F.Refuse key x s = LacksOne s
FindsNone F.Whole key x s = OpensFull x.first key 1 s
FindsNone F.Go key x s = OpensFull x.first key (places_from x.first key s) s
FindsNone (F.From place) key x s = OpensFull x.first key (places_from x.first key s) s
FindsNone _ key x s = ⊥

-- the answers that ask the store for something
abbrev pub CallsStore : FileIn → Type 0
CallsStore F.Have = ⊥
CallsStore F.Elsewhere = ⊥
CallsStore F.Late = ⊥
CallsStore word = Unit {0}

-- what it needs
abbrev pub MayAnswer : FileIn → Key → ℕ → Sitting → StoreState → Type 0
MayAnswer F.Refuse key offset x s = known_in x.first key s.stock.state ≡ New
MayAnswer F.Whole key offset x s =
    (known_in x.first key s.stock.state ≡ New) × (mark_len x.first key s ≡ key.size) × OpensWhole x.first key s
MayAnswer F.Go key offset x s = (known_in x.first key s.stock.state ≡ New) × (offset ≡ mark_len x.first key s)
MayAnswer (F.From place) key offset x s = (known_in x.first key s.stock.state ≡ New) × (place ≡ mark_len x.first key s)
MayAnswer _ key offset x s = Unit {0}

-- what it does
abbrev pub Answered : FileIn → Key → ℕ → StoreState → Sitting → StoreState → Sitting → Type 0
Answered F.Refuse key reason old x new y = RefusesFile x.first key x.number reason old new × (y ≡ x)
Answered F.Whole key reason old x new y = ReceivesWhole x.first key x.number x.secure old new × (y ≡ x)
Answered F.Go key reason old x new y = TakesUp key true old x new y
Answered (F.From place) key reason old x new y = NotesMissed key old x new y
Answered _ key reason old x new y = (new ≡ old) × (y ≡ x)
