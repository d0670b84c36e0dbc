-- What contracts see of a hub over a store, and the node that it tells (own).
use Rattle.std.specs.Prelude.{◌≡◌, ◌≢◌, zero, suc, ℕ, Bool, true, false, ◌-◌, ◌<◌, List, [], ◌∷◌, Option, Some, None, map, option_map, length, reverse, slice_index_or}
use Rattle.ftn_addr.specs.Address.{Address, address}
use Rattle.ftn_addr.specs.Counts.{next_count}
use Rattle.ftn_addr.specs.Files.{is_same}
use Rattle.ftn_addr.specs.Key.{Key, key_of}
use Rattle.ftn_addr.specs.Limits.{IsAddress}
use Rattle.node_model.specs.declared.words.Flavour.{Flavour}
use Rattle.node_model.specs.declared.words.Role.{Role}
use Rattle.node_model.specs.Items.{EntryOf, Receipt, Mark, MarkOf}
use Rattle.node_model.specs.Lists.{Member, Each}
use Rattle.node_model.specs.Durable.{Durable, nothing_kept}
use Rattle.node_model.specs.Node.{Hold, Session, Seat, Settings, Node}
use Rattle.node_model.specs.Calls.{Knows, Tells, Counts_alone}
use Rattle.node_model.specs.Desks.{Claim, DeskPart}
use Rattle.node_model.specs.Images.{Stand}
use Rattle.node_model.specs.Sound.{Sound}
use Rattle.node_model.specs.Stocks.{Stock, sizes, body_of, part_in}
use Rattle.node_model.specs.StoreWords.{KeyOf}
use Rattle.node_model.specs.Stores.{Shelf, Stored, StoreState, StoreStand, IfTold, IsShelf, OpensShelf}
use Rattle.node_model.specs.Talk.{Part}
use Rattle.hub_core.specs.declared.places.Taken.{Taken}
use Rattle.hub_core.specs.declared.places.Claimed.{Claimed}
use Rattle.hub_core.specs.declared.places.Open.{Open}
use Rattle.hub_core.specs.declared.places.Place.{Place}
use Rattle.hub_core.specs.declared.places.HubConf.{HubConf}
use Rattle.hub_core.specs.declared.places.Seats.{Seats}
use Rattle.hub_core.specs.Skips.{AllBehind}

-- the file that a session holds: its part in the store, its key, how many bytes of it came, whether data is taken, its
-- places, and whether the session was told, over a broken store, that it holds it no more
pub record Taking : Type 0 where
  pub part : ℕ
  pub key : Key
  pub have : ℕ
  pub taking : Bool
  pub places : ℕ
  pub dropped : Bool

-- an open session; the entries that it skipped, the last one first, and the place that its search goes on from
pub record Sitting : Type 0 where
  pub number : ℕ
  pub role : Role
  pub first : Address
  pub others : List Address
  pub secure : Bool
  pub moment : ℕ
  pub claim : Option Claim
  pub skipped : List ℕ
  pub passed : Option (Flavour × ℕ)
  pub hold : Option Taking
  pub missed : List Key

-- a seat: how often its calls answered Busy and Read, and its open session
pub record Chair : Type 0 where
  pub busy : ℕ
  pub reads : ℕ
  pub sitting : Option Sitting

-- the seats that were given, the settings, and how many sessions began
pub record HubState : Type 0 where
  pub chairs : List Chair
  pub settings : Settings
  pub begun : ℕ

-- The code's values, without where they lie in memory.

abbrev pub taking_of : Taken → Taking
taking_of t = record { part = t.part; key = key_of t.key; have = t.have; taking = t.taking; places = t.places; dropped = t.dropped }

abbrev pub claim_of : Claimed → Claim
claim_of c = record { number = c.number; key = key_of c.key }

abbrev pub sitting_of : Open → Sitting
sitting_of o =
    record { number = o.number; role = o.role; first = address o.first; others = map address o.others.items; secure = o.secure; moment = o.moment; claim = option_map claim_of o.offers.claim; skipped = reverse o.offers.skips.list.items; passed = o.offers.passed; hold = option_map taking_of o.hold; missed = map key_of o.missed.items }

abbrev pub chair_of : Place → Chair
chair_of p = record { busy = p.busy; reads = p.reads; sitting = option_map sitting_of p.session }

abbrev pub settings_of : HubConf → Settings
settings_of c = record { max_servers = c.max_servers; refuse_names = map (λ b. b.list) c.refuse_names.items; refuse_over = c.refuse_over }

abbrev pub hub_state : Seats → HubState
hub_state s = record { chairs = map chair_of s.places.items; settings = settings_of s.conf; begun = s.begun }

-- Seats.

abbrev pub empty_chair : Chair
empty_chair = record { busy = 0; reads = 0; sitting = None }

abbrev pub chair_in : List Chair → ℕ → Chair
chair_in chairs k = slice_index_or chairs k empty_chair

-- the seats with another value at that number
abbrev pub put_chair : ℕ → Chair → List Chair → List Chair
put_chair zero c [] = c ∷ []
put_chair zero c (x ∷ xs) = c ∷ xs
put_chair (suc k) c [] = empty_chair ∷ put_chair k c []
put_chair (suc k) c (x ∷ xs) = x ∷ put_chair k c xs

-- the seat's session is another
abbrev pub with_sitting : ℕ → Option Sitting → HubState → HubState
with_sitting seat x h = record h { chairs = put_chair seat (record (chair_in h.chairs seat) { sitting = x }) h.chairs }

-- the seat's count of knocks that were turned away
abbrev pub busier : ℕ → HubState → HubState
busier seat h = record h { chairs = put_chair seat (record (chair_in h.chairs seat) { busy = next_count (chair_in h.chairs seat).busy }) h.chairs }

-- over a broken store the session was told that it holds nothing more
abbrev pub dropped_taking : Option Taking → Option Taking
dropped_taking None = None
dropped_taking (Some t) = Some (record t { dropped = true })

abbrev pub dropped_sitting : Sitting → Sitting
dropped_sitting x = record x { hold = dropped_taking x.hold }

-- a session begins under the next number
abbrev pub begun_with : ℕ → Sitting → HubState → HubState
begun_with seat x h = record (with_sitting seat (Some x) h) { begun = x.number }

abbrev pub sitting_at : HubState → ℕ → Option Sitting
sitting_at h seat = (chair_in h.chairs seat).sitting

-- The node.

-- what a store keeps, where it tells that
abbrev pub told : Option Stored → Stored
told None = record { stock = record { state = nothing_kept; parts = []; staged = [] }; recorded = []; takes = λ name. None; outside = λ path. None; gifts = []; log = [] }
told (Some a) = a

-- the held file with the bytes of its open part
abbrev pub hold_over : Stock → Address → Option Taking → Option Hold
hold_over stock from None = None
hold_over stock from (Some t) =
    Some (record { number = t.part; from = from; key = t.key; bytes = body_of t.part stock; stored = true; taking = t.taking })

abbrev pub hold_places_of : Option Taking → ℕ
hold_places_of None = 0
hold_places_of (Some t) = t.places

-- one place for what is claimed
abbrev pub claim_places_of : Option Claim → ℕ
claim_places_of None = 0
claim_places_of (Some c) = 1

abbrev pub session_over : Stock → Sitting → Session
session_over stock x =
    record { number = x.number; role = x.role; first = x.first; others = x.others; secure = x.secure; moment = x.moment; claim = option_map (λ (c : Claim). c.number) x.claim; skipped = x.skipped; hold = hold_over stock x.first x.hold; missed = x.missed; claim_places = claim_places_of x.claim; hold_places = hold_places_of x.hold }

abbrev pub seat_over : Stock → Chair → Seat
seat_over stock c = record { busy = c.busy; reads = c.reads; session = option_map (session_over stock) c.sitting }

-- the node of a hub over a store that keeps this
abbrev pub node_with : Stored → StoreState → HubState → Node
node_with a s h =
    record { state = a.stock.state; log = a.log; seats = map (seat_over a.stock) h.chairs; settings = h.settings; begun = h.begun; records = s.records; reserved = s.reserved; staged = s.staged; drawn = s.drawn; faults = s.counts.faults; fulls = s.counts.fulls; broken = s.counts.broken; last_given = s.last_given }

abbrev pub node_of : StoreState → HubState → Node
node_of s h = node_with (told s.content) s h

-- What a desk tells: the node where its store tells what it keeps, else the counts alone.
abbrev pub knows_over : Option Stored → StoreState → HubState → ℕ → Knows
knows_over None s h seat =
    Counts_alone (record { store = s.counts; busy = (chair_in h.chairs seat).busy; reads = (chair_in h.chairs seat).reads })
knows_over (Some a) s h seat = Tells (node_with a s h)

abbrev pub state_of : Shelf → Durable
state_of e = e.state

-- the store's images, seen through their durable state
abbrev pub seen : (ℕ → Option Shelf → Type 0) → ℕ → Option Durable → Type 0
seen images k d = (e : Option Shelf) × images k e × (d ≡ option_map state_of e)

abbrev pub hub_stand : StoreStand → HubState → ℕ → Stand
hub_stand w h seat =
    record { state = record { seat = seat; knows = knows_over w.state.content w.state h seat }; moment = w.moment; images = seen w.images }

-- The part of a desk.

abbrev pub unless_dropped : Bool → Part → Option Part
unless_dropped true p = None
unless_dropped false p = Some p

abbrev pub taken_part : Option Taking → Option Part
taken_part None = None
taken_part (Some t) = unless_dropped t.dropped (record { key = t.key; left = t.key.size - t.have; taking = t.taking })

abbrev pub sitting_part : Option Sitting → DeskPart
sitting_part None = record { open_now = false; claim = None; held = None }
sitting_part (Some x) = record { open_now = true; claim = x.claim; held = taken_part x.hold }

abbrev pub seat_part : HubState → ℕ → DeskPart
seat_part h seat = sitting_part (sitting_at h seat)

-- a new session with these peers
pub record IsNewSitting (number : ℕ) (role : Role) (peers : List Address) (secure : Bool) (moment : ℕ) (x : Sitting) : Type 0 where
  pub peers_are : x.first ∷ x.others ≡ peers
  pub is : x ≡ record { number = number; role = role; first = x.first; others = x.others; secure = secure; moment = moment; claim = None; skipped = []; passed = None; hold = None; missed = [] }

-- What holds between two calls.

-- the held file is an open part of the store, with as many bytes as came
pub record HoldFits (s : StoreState) (from : Address) (t : Taking) : Type 0 where
  pub part : part_in t.part s.stock.parts ≡ Some (record { number = t.part; from = from; key = t.key; bytes = t.have })
  pub kept : t.dropped ≡ false

abbrev pub IfHeld : StoreState → Address → Option Taking → Type 0
IfHeld s from None = Unit {0}
IfHeld s from (Some t) = HoldFits s from t

-- the claimed entry is queued with its key
abbrev pub IfClaimed : List (EntryOf ℕ) → Option Claim → Type 0
IfClaimed queue None = Unit {0}
IfClaimed queue (Some c) = KeyOf c.number c.key queue

-- what is queued for its peer and not skipped stands behind the place that it goes on from
pub record SittingFits (s : StoreState) (x : Sitting) : Type 0 where
  pub first : IsAddress x.first
  pub claim : IfClaimed s.stock.state.queue x.claim
  pub passed : AllBehind (x.first ∷ x.others) x.skipped s.stock.state.queue x.passed
  pub hold : IfHeld s x.first x.hold

-- an open part has the number of its mark and no other's, and no receipt's
pub record PartFits (d : Durable) (p : MarkOf ℕ) : Type 0 where
  pub marks : Each (λ (m : Mark). (m.number ≡ p.number → is_same p.from p.key m.from m.key ≡ true) × (is_same p.from p.key m.from m.key ≡ true → m.number ≡ p.number)) d.marks
  pub receipts : Each (λ (r : Receipt). r.number ≢ p.number) d.inbox

-- the hub's sessions fit a store that keeps this, and their node is sound
pub record HubFits (a : Stored) (s : StoreState) (h : HubState) : Type 0 where
  pub stock : s.stock ≡ sizes a.stock
  pub sittings : (k : ℕ) (x : Sitting) → sitting_at h k ≡ Some x → SittingFits s x
  pub parts : (p : MarkOf ℕ) → Member p s.stock.parts → PartFits a.stock.state p
  pub sound : Sound (node_with a s h)

-- What a store keeps that fits the hub: where it tells, that is what it tells; of a store that tells nothing there is
-- something that it may keep.
pub record Fitted (s : StoreState) (h : HubState) : Type 0 where
  pub keeps : Stored
  pub tells : IfTold s.content (λ b. b ≡ keeps)
  pub fits : HubFits keeps s h

-- each image now is what the store keeps
abbrev pub IsSettled : StoreStand → Type 0
IsSettled w = (d : Option Shelf) → w.images w.moment d → OpensShelf (IsShelf w.state.content) d

-- The desk of a seat that was given, over a store that isn't broken or is to be opened again.
pub record IsReady (w : StoreStand) (h : HubState) (seat : ℕ) : Type 0 where
  pub given : seat < length h.chairs
  pub fitted : w.state.counts.broken ≡ None → Fitted w.state h
  pub settled : w.state.counts.broken ≡ None → IsSettled w
