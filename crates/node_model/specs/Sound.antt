-- A sound node: what holds of it between two steps, while its store isn't broken (own).
use Rattle.std.specs.Prelude.{◌≡◌, ◌≢◌, ℕ, Bool, true, false, ◌==◌, ◌+◌, ◌≤◌, List, [], ◌∷◌, Option, Some, None, length, take}
use Rattle.node_model.specs.Items.{Body, Live, Done, Entry, Receipt, Refusal, Mark}
use Rattle.node_model.specs.Lists.{Member, Each, some_passes}
use Rattle.ftn_addr.specs.Files.{is_same}
use Rattle.node_model.specs.Durable.{Durable, is_known, is_refused, marked}
use Rattle.node_model.specs.Node.{Hold, Session, Seat, peers, Node, session_at, hold_in, claim_in}
use Rattle.node_model.specs.Rows.{refuses, places_for}
use Rattle.ftn_addr.specs.Key.{Key}
use Rattle.node_model.specs.declared.words.TheConstants.{MOST_RECORDS}
use Rattle.ftn_addr.specs.declared.limits.TheConstants.{MAX_NUMBER}

-- no two of these are the same
abbrev pub Distinct : {A : Type 0} → (A → A → Bool) → List A → Type 0
Distinct same [] = Unit {0}
Distinct same (x ∷ xs) = (some_passes (same x) xs ≡ false) × Distinct same xs

abbrev pub same_entry : Entry → Entry → Bool
same_entry e f = is_same e.dest e.key f.dest f.key

abbrev pub same_number : Entry → Entry → Bool
same_number e f = e.number == f.number

abbrev pub same_receipt : Receipt → Receipt → Bool
same_receipt r q = is_same r.from r.key q.from q.key

abbrev pub same_refusal : Refusal → Refusal → Bool
same_refusal r q = is_same r.from r.key q.from q.key

abbrev pub same_mark : Mark → Mark → Bool
same_mark m q = is_same m.from m.key q.from q.key

-- the live bytes are as many as the key says
abbrev pub FitsKey : Key → Body → Type 0
FitsKey key (Live bytes) = length bytes ≡ key.size
FitsKey key Done = Unit {0}

-- so are the bytes of a receipt that has any
abbrev pub ReceiptFits : Key → Option (List ℕ) → Type 0
ReceiptFits key None = Unit {0}
ReceiptFits key (Some bytes) = length bytes ≡ key.size

-- no address has a key twice, and no two entries have one number
pub record SoundQueue (queue : List Entry) : Type 0 where
  pub entries : Distinct same_entry queue
  pub numbers : Distinct same_number queue
  pub sizes : Each (λ (e : Entry). FitsKey e.key e.body) queue

-- a sender and key stand in one of inbox and refused, and once; a mark is of neither
pub record SoundInbox (d : Durable) : Type 0 where
  pub once : Distinct same_receipt d.inbox
  pub not_refused : Each (λ (r : Receipt). is_refused r.from r.key d ≡ false) d.inbox
  pub refused_once : Distinct same_refusal d.refused
  pub marks_once : Distinct same_mark d.marks
  pub marks_new : Each (λ (m : Mark). is_known m.from m.key d ≡ false) d.marks
  pub mark_sizes : Each (λ (m : Mark). length m.bytes ≤ m.key.size) d.marks
  pub sizes : Each (λ (r : Receipt). ReceiptFits r.key r.bytes) d.inbox

-- open sessions have numbers of their own, up to that of the last that began
pub record SoundSessions (n : Node) : Type 0 where
  pub numbers : (k : ℕ) (s : Session) → session_at n k ≡ Some s → (1 ≤ s.number) × (s.number ≤ n.begun)
  pub apart : (j k : ℕ) (s t : Session) → session_at n j ≡ Some s → session_at n k ≡ Some t → s.number ≡ t.number → j ≡ k

-- the claimed entry is live, and for one of the session's peers
pub record ClaimOk (queue : List Entry) (s : Session) (number : ℕ) : Type 0 where
  pub entry : Entry
  pub there : Member entry queue
  pub numbered : entry.number ≡ number
  pub bytes : List ℕ
  pub live : entry.body ≡ Live bytes
  pub for_peer : Member entry.dest (peers s)

-- an entry is claimed by one seat at most
pub record SoundClaims (n : Node) : Type 0 where
  pub each : (k number : ℕ) (s : Session) → session_at n k ≡ Some s → s.claim ≡ Some number → ClaimOk n.state.queue s number
  pub apart : (j k number : ℕ) → claim_in (session_at n j) ≡ Some number → claim_in (session_at n k) ≡ Some number → j ≡ k

-- what is held is of the session's peer and neither settled nor refused by the settings; it begins with its mark, and
-- the store has the part open with it
pub record HoldOk (n : Node) (s : Session) (h : Hold) : Type 0 where
  pub from_first : h.from ≡ s.first
  pub new : is_known h.from h.key n.state ≡ false
  pub wanted : refuses n.settings h.key ≡ false
  pub stored : h.stored ≡ true
  pub begins : take (length (marked h.from h.key n.state)) h.bytes ≡ marked h.from h.key n.state
  pub fits : length h.bytes ≤ h.key.size

-- a sender and key are held by one seat at most
pub record SoundHolds (n : Node) : Type 0 where
  pub each : (k : ℕ) (s : Session) (h : Hold) → session_at n k ≡ Some s → s.hold ≡ Some h → HoldOk n s h
  pub apart : (j k : ℕ) (g h : Hold) → hold_in (session_at n j) ≡ Some g → hold_in (session_at n k) ≡ Some h → is_same g.from g.key h.from h.key ≡ true → j ≡ k

-- Marks, holds and receipts of different senders or keys have different part numbers, a hold has its mark's, and no
-- number is above the greatest that was drawn.
pub record SoundParts (n : Node) : Type 0 where
  pub marks : Distinct (λ (m q : Mark). m.number == q.number) n.state.marks
  pub receipts : Distinct (λ (r q : Receipt). r.number == q.number) n.state.inbox
  pub apart : Each (λ (m : Mark). Each (λ (r : Receipt). m.number ≢ r.number) n.state.inbox) n.state.marks
  pub held_mark : (k : ℕ) (h : Hold) → hold_in (session_at n k) ≡ Some h → Each (λ (m : Mark). ((m.number ≡ h.number → is_same h.from h.key m.from m.key ≡ true) × (is_same h.from h.key m.from m.key ≡ true → m.number ≡ h.number))) n.state.marks
  pub held_receipt : (k : ℕ) (h : Hold) → hold_in (session_at n k) ≡ Some h → Each (λ (r : Receipt). r.number ≢ h.number) n.state.inbox
  pub held_apart : (j k : ℕ) (g h : Hold) → hold_in (session_at n j) ≡ Some g → hold_in (session_at n k) ≡ Some h → g.number ≡ h.number → j ≡ k
  pub marks_drawn : Each (λ (m : Mark). (1 ≤ m.number) × (m.number ≤ n.drawn)) n.state.marks
  pub receipts_drawn : Each (λ (r : Receipt). (1 ≤ r.number) × (r.number ≤ n.drawn)) n.state.inbox
  pub holds_drawn : (k : ℕ) (h : Hold) → hold_in (session_at n k) ≡ Some h → (1 ≤ h.number) × (h.number ≤ n.drawn)
  pub queue_staged : Each (λ (e : Entry). e.number ≤ n.staged) n.state.queue
  pub drawn_few : n.drawn ≤ MAX_NUMBER

abbrev pub places_in : Option Session → ℕ
places_in None = 0
places_in (Some s) = s.claim_places + s.hold_places

abbrev pub places_of : Seat → ℕ
places_of seat = places_in seat.session

abbrev pub all_places : List Seat → ℕ
all_places [] = 0
all_places (x ∷ xs) = places_of x + all_places xs

-- each claim has a place, each hold one for its receipt and one for each mark that may come; all are reserved, and with
-- the records held they are at most those of a ledger
pub record SoundPlaces (n : Node) : Type 0 where
  pub claims : (k number : ℕ) (s : Session) → session_at n k ≡ Some s → s.claim ≡ Some number → 1 ≤ s.claim_places
  pub holds : (k : ℕ) (s : Session) (h : Hold) → session_at n k ≡ Some s → s.hold ≡ Some h → places_for (length (marked h.from h.key n.state)) h.key.size ≤ s.hold_places
  pub all : all_places n.seats ≤ n.reserved
  pub room : n.records + n.reserved ≤ MOST_RECORDS

pub record Sound (n : Node) : Type 0 where
  pub queue : SoundQueue n.state.queue
  pub inbox : SoundInbox n.state
  pub sessions : SoundSessions n
  pub claims : SoundClaims n
  pub holds : SoundHolds n
  pub parts : SoundParts n
  pub places : SoundPlaces n

-- a broken store is to be opened again; of any other all that holds
abbrev pub IsSound : Node → Type 0
IsSound n = n.broken ≡ None → Sound n
