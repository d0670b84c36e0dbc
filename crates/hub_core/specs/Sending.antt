-- What a hub's session offers, reads, settles and skips, before it is told as steps of the node (own).
use Rattle.std.specs.Prelude.{◌≡◌, ◌⊎◌, ℕ, Bool, true, false, ◌==◌, ◌+◌, ◌<◌, ◌≤◌, List, [], ◌∷◌, Option, Some, None, option_map, take, drop}
use Rattle.ftn_addr.specs.Address.{Address}
use Rattle.node_model.specs.declared.words.Flavour.{Flavour}
use Rattle.node_model.specs.declared.words.TheConstants.{MOST_RECORDS}
use Rattle.node_model.specs.Items.{EntryOf}
use Rattle.node_model.specs.Desks.{Claim}
use Rattle.node_model.specs.SendRows.{rank}
use Rattle.node_model.specs.Stores.{StoreState, IfTold, Source}
use Rattle.node_model.specs.declared.store.StoreFault.{StoreFault}
use Rattle.node_model.specs.declared.store.StoreFault.TheVariants.{Disk, Read, Full, NoMemory}
use Rattle.node_model.specs.StoreWords.{KeyOf}
use Rattle.node_model.specs.declared.desk.Offer.{Offer}
use Rattle.node_model.specs.declared.desk.Offer.TheVariants as O
use Rattle.ftn_addr.specs.Counts.{Increased, next_count}
use Rattle.ftn_addr.specs.Key.{Key, key_of}
use Rattle.ftn_addr.specs.Limits.{IsKey}
use Rattle.hub_core.specs.Hubs.{Sitting, Chair, HubState, chair_in, put_chair, sitting_at}
use Rattle.hub_core.specs.Skips.{IsFree, AllBehind, is_skipped}
use Rattle.hub_core.specs.Steps.{Broke, OneOf, loses_none, reserved_more, LacksOne}

-- Entries that aren't offered.

abbrev pub claims : ℕ → Option Claim → Bool
claims number None = false
claims number (Some c) = c.number == number

abbrev pub sitting_claims : ℕ → Option Sitting → Bool
sitting_claims number None = false
sitting_claims number (Some x) = claims number x.claim

-- the seat's session has claimed that entry
abbrev pub chair_claims : ℕ → Chair → Bool
chair_claims number c = sitting_claims number c.sitting

-- one of the seats has claimed it
pub record ClaimedBy (chairs : List Chair) (number : ℕ) : Type 0 where
  pub other : ℕ
  pub claims : chair_claims number (chair_in chairs other) ≡ true

-- a seat has claimed it, or the session has skipped it
abbrev pub KeptBack : List Chair → List ℕ → ℕ → Type 0
KeptBack chairs skipped number = ClaimedBy chairs number ⊎ (is_skipped skipped number ≡ true)

-- The next to be offered.

-- by flavour, then by number
abbrev pub Comes : Flavour × ℕ → Flavour × ℕ → Type 0
Comes a b = (rank a.0 < rank b.0) ⊎ ((rank a.0 ≡ rank b.0) × (a.1 ≤ b.1))

-- the earlier one, where there are any
abbrev pub EarlierOf : Option (Flavour × ℕ) → Option (Flavour × ℕ) → Option (Flavour × ℕ) → Type 0
EarlierOf None b least = least ≡ b
EarlierOf (Some a) None least = least ≡ Some a
EarlierOf (Some a) (Some b) least = ((least ≡ Some a) × Comes a b) ⊎ ((least ≡ Some b) × Comes b a)

abbrev pub place_of : EntryOf ℕ → Flavour × ℕ
place_of e = (e.flavour, e.number)

-- the first of these by flavour, then by number
pub record FirstFree (dests : List Address) (Back : ℕ → Type 0) (queue : List (EntryOf ℕ)) (at : Flavour × ℕ) : Type 0 where
  pub entry : EntryOf ℕ
  pub is_free : IsFree dests Back queue entry
  pub flavoured : entry.flavour ≡ at.0
  pub numbered : entry.number ≡ at.1
  pub least : (f : EntryOf ℕ) → IsFree dests Back queue f → Comes at (place_of f)

abbrev pub NextFree : List Address → (ℕ → Type 0) → List (EntryOf ℕ) → Option (Flavour × ℕ) → Type 0
NextFree dests Back queue None = (f : EntryOf ℕ) → IsFree dests Back queue f → ⊥
NextFree dests Back queue (Some at) = FirstFree dests Back queue at

-- What is done with it.

abbrev pub claimed_sitting : ℕ → Key → Sitting → Sitting
claimed_sitting number key x = record x { claim = Some (record { number = number; key = key }) }

abbrev pub unclaimed_sitting : Sitting → Sitting
unclaimed_sitting x = record x { claim = None }

abbrev pub skipped_sitting : ℕ → Sitting → Sitting
skipped_sitting number x = record x { claim = None; skipped = number ∷ x.skipped }

-- it goes on from another place
abbrev pub passed_sitting : Option (Flavour × ℕ) → Sitting → Sitting
passed_sitting at x = record x { passed = at }

-- the addresses of the session's peer
abbrev pub dests_of : Sitting → List Address
dests_of x = x.first ∷ x.others

abbrev pub NextOf : List Chair → Sitting → StoreState → Option (Flavour × ℕ) → Type 0
NextOf chairs x s at = NextFree (dests_of x) (KeptBack chairs x.skipped) s.stock.state.queue at

-- a place that the session may go on from
abbrev pub GoesOnFrom : Sitting → StoreState → Option (Flavour × ℕ) → Type 0
GoesOnFrom x s at = AllBehind (dests_of x) x.skipped s.stock.state.queue at

-- the next is claimed, with its key, under a place of its own
pub record OffersFile (chairs : List Chair) (x : Sitting) (number : ℕ) (key : Key) (old new : StoreState) (y : Sitting) : Type 0 where
  pub flavour : Flavour
  pub first : NextOf chairs x old (Some (flavour, number))
  pub keyed : KeyOf number key old.stock.state.queue
  pub limits : IsKey key
  pub room : old.records + old.reserved + 1 ≤ MOST_RECORDS
  pub after : new ≡ reserved_more 1 old
  pub passed : Option (Flavour × ℕ)
  pub goes_on : GoesOnFrom x old passed
  pub claimed : y ≡ claimed_sitting number key (passed_sitting passed x)

-- there is none
pub record OffersNothing (chairs : List Chair) (x : Sitting) (old new : StoreState) (y : Sitting) : Type 0 where
  pub none : NextOf chairs x old None
  pub after : new ≡ old
  pub passed : Option (Flavour × ℕ)
  pub goes_on : GoesOnFrom x old passed
  pub same : y ≡ passed_sitting passed x

abbrev pub Offers : List Chair → Sitting → Offer → StoreState → StoreState → Sitting → Type 0
Offers chairs x (O.File number key) old new y = OffersFile chairs x number (key_of key) old new y
Offers chairs x O.Nothing old new y = OffersNothing chairs x old new y

-- there is one, and no place for its record
pub record OffersFull (chairs : List Chair) (x : Sitting) (s : StoreState) : Type 0 where
  pub at : Flavour × ℕ
  pub first : NextOf chairs x s (Some at)
  pub lacks : LacksOne s

abbrev pub number_of : Claim → ℕ
number_of c = c.number

abbrev pub claim_number : Option Claim → ℕ
claim_number None = 0
claim_number (Some c) = c.number

-- the number of the entry that the seat's session has claimed
abbrev pub sitting_number : Option Sitting → Option ℕ
sitting_number None = None
sitting_number (Some x) = option_map number_of x.claim

abbrev pub claimed_at : HubState → ℕ → Option ℕ
claimed_at h seat = sitting_number (sitting_at h seat)

-- a read that failed is counted at its seat
abbrev pub read_once_more : ℕ → HubState → HubState
read_once_more seat h =
    record h { chairs = put_chair seat (record (chair_in h.chairs seat) { reads = next_count (chair_in h.chairs seat).reads }) h.chairs }

-- these bytes of an entry were read, where the store tells them
abbrev pub ReadsBytes : (number at room : ℕ) → List ℕ → StoreState → StoreState → Type 0
ReadsBytes number at room bytes old new =
    IfTold old.content (λ s. (content : List ℕ) × Source number content s × (bytes ≡ take room (drop at content))) × (new ≡ old)

-- the read failed, which is counted
pub record ReadFailed (old new : StoreState) : Type 0 where
  pub rose : Increased old.counts.faults new.counts.faults
  pub after : new ≡ record old { counts = record old.counts { faults = new.counts.faults } }

-- a read is refused by the disk, or fails
abbrev pub ReadRefused : StoreFault → StoreState → StoreState → Type 0
ReadRefused Disk old new = Broke (OneOf (old.content ∷ [])) loses_none old new
ReadRefused Read old new = ReadFailed old new
ReadRefused Full old new = ⊥
ReadRefused NoMemory old new = ⊥
