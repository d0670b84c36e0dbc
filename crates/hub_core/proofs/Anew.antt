-- A hub whose searches begin anew is the same node, has the same claims and holds, and is as ready as before.
use Rattle.std.proofs.Common.{◌≡◌, Bool, ℕ, zero, suc, ◌+◌, ◌<◌, ◌≤◌, List, [], ◌∷◌, ◌++◌, Option, Some, None, map, length, take, drop, get_or, set, option_map, refl, sym, ◌∙◌, ap, subst, arith}
use Rattle.ftn_addr.specs.Address.{Address}
use Rattle.node_model.specs.Calls.{Counts_alone, Tells}
use Rattle.node_model.specs.Desks.{Claim}
use Rattle.node_model.specs.Items.{EntryOf}
use Rattle.node_model.specs.Lists.{Member}
use Rattle.node_model.specs.Node.{Seat, Session}
use Rattle.node_model.specs.Sound.{Sound}
use Rattle.node_model.specs.Stocks.{Stock}
use Rattle.node_model.specs.Stores.{Stored, StoreState, StoreStand}
use Rattle.hub_core.specs.declared.claim_index.ClaimIndex.{ClaimIndex}
use Rattle.hub_core.specs.declared.hold_index.HoldIndex.{HoldIndex}
use Rattle.hub_core.specs.Anew.{LooksAnew, anew, chair_anew, from_start}
use Rattle.hub_core.specs.Holders.{HoldsOf, holder_of, holds_filed}
use Rattle.hub_core.specs.Hubs.{Taking, Sitting, Chair, HubState, HubFits, SittingFits, IsReady, IfClaimed, IfHeld, chair_in, knows_over, node_with, seat_over, seat_part, session_over, sitting_at, sitting_part}
use Rattle.hub_core.specs.Indices.{ClaimsOf, Finds, claimer}
use Rattle.hub_core.specs.Sending.{sitting_claims}

pub chair_at : (cs : List Chair) (k : ℕ) → chair_in (map chair_anew cs) k ≡ chair_anew (chair_in cs k)
chair_at [] zero = refl
chair_at [] (suc k) = refl
chair_at (c ∷ cs) zero = refl
chair_at (c ∷ cs) (suc k) = chair_at cs k

pub sitting_anew : (h : HubState) (k : ℕ) → sitting_at (anew h) k ≡ option_map from_start (sitting_at h k)
sitting_anew h k = ap (λ (c : Chair). c.sitting) (chair_at h.chairs k)

-- The same node.

part_same : (o : Option Sitting) → sitting_part (option_map from_start o) ≡ sitting_part o
part_same None = refl
part_same (Some x) = refl

pub part_anew : (h : HubState) (k : ℕ) → seat_part (anew h) k ≡ seat_part h k
part_anew h k = ap sitting_part (sitting_anew h k) ∙ part_same (sitting_at h k)

session_same : (stock : Stock) (o : Option Sitting) → option_map (session_over stock) (option_map from_start o) ≡ option_map (session_over stock) o
session_same stock None = refl
session_same stock (Some x) = refl

seats_same : (stock : Stock) (cs : List Chair) → map (seat_over stock) (map chair_anew cs) ≡ map (seat_over stock) cs
seats_same stock [] = refl
seats_same stock (c ∷ cs) =
    ap (λ (o : Option Session). record { busy = c.busy; reads = c.reads; session = o } ∷ map (seat_over stock) (map chair_anew cs)) (session_same stock c.sitting)
    ∙ ap (λ (ss : List Seat). seat_over stock c ∷ ss) (seats_same stock cs)

pub node_anew : (a : Stored) (s : StoreState) (h : HubState) → node_with a s (anew h) ≡ node_with a s h
node_anew a s h = ap (λ (ss : List Seat). record (node_with a s h) { seats = ss }) (seats_same a.stock h.chairs)

-- what is told of it
pub knows_anew : (c : Option Stored) (s : StoreState) (h : HubState) (seat : ℕ) → knows_over c s (anew h) seat ≡ knows_over c s h seat
knows_anew None s h seat = ap (λ (c : Chair). Counts_alone (record { store = s.counts; busy = c.busy; reads = c.reads })) (chair_at h.chairs seat)
knows_anew (Some a) s h seat = ap Tells (node_anew a s h)

-- As ready as before.

pub length_anew : (cs : List Chair) → length (map chair_anew cs) ≡ length cs
length_anew [] = refl
length_anew (c ∷ cs) = ap suc (length_anew cs)

record CameFrom (o : Option Sitting) (x : Sitting) : Type 0 where
  pub was : Sitting
  pub there : o ≡ Some was
  pub is : x ≡ from_start was

came_from : (o : Option Sitting) (x : Sitting) → option_map from_start o ≡ Some x → CameFrom o x
came_from None x e = absurd (cc)
came_from (Some y) x e = record { was = y; there = refl; is = sym (some_is e) }
  where
    some_is : Some (from_start y) ≡ Some x → from_start y ≡ x
    some_is e = cc

sitting_fits : (s : StoreState) (y : Sitting) → SittingFits s y → SittingFits s (from_start y)
sitting_fits s y f = record { first = f.first; claim = f.claim; passed = λ e free. tt; hold = f.hold }

pub fits_anew : (a : Stored) (s : StoreState) (h : HubState) → HubFits a s h → HubFits a s (anew h)
fits_anew a s h f = record {
  stock = f.stock;
  sittings = λ k x at. (let c = came_from (sitting_at h k) x (sym (sitting_anew h k) ∙ at) in subst (SittingFits s) (sym c.is) (sitting_fits s c.was (f.sittings k c.was c.there)));
  parts = f.parts;
  sound = subst Sound (sym (node_anew a s h)) f.sound;
}

pub ready_anew : (w : StoreStand) (h : HubState) (k : ℕ) → IsReady w h k → IsReady w (anew h) k
ready_anew w h k r = record {
  given = subst (λ (n : ℕ). k < n) (sym (length_anew h.chairs)) r.given;
  fitted = λ whole. (let f = r.fitted whole in record { keeps = f.keeps; tells = f.tells; fits = fits_anew f.keeps w.state h f.fits });
  settled = r.settled;
}

pub looks_anew : (h : HubState) → LooksAnew (anew h)
looks_anew h k x at = let c = came_from (sitting_at h k) x (sym (sitting_anew h k) ∙ at) in ap (λ (y : Sitting). y.passed) c.is

-- What keeps the entries and the open parts keeps a session that looks anew.

claim_on : (q r : List (EntryOf ℕ)) → ((e : EntryOf ℕ) → Member e q → (f : EntryOf ℕ) × Member f r × (f.number ≡ e.number) × (f.key ≡ e.key)) → (o : Option Claim) → IfClaimed q o → IfClaimed r o
claim_on q r on None c = tt
claim_on q r on (Some c) k = let f = on k.0 k.1 in (f.0, f.1, f.2 ∙ k.2, f.3 ∙ k.3)

hold_on : (s t : StoreState) (from : Address) → t.stock.parts ≡ s.stock.parts → (o : Option Taking) → IfHeld s from o → IfHeld t from o
hold_on s t from same None h = tt
hold_on s t from same (Some k) h = record { part = rw same h.part; kept = h.kept }

pub sitting_on : (s t : StoreState) (x : Sitting) → x.passed ≡ None → t.stock.parts ≡ s.stock.parts
    → ((e : EntryOf ℕ) → Member e s.stock.state.queue → (f : EntryOf ℕ) × Member f t.stock.state.queue × (f.number ≡ e.number) × (f.key ≡ e.key))
    → SittingFits s x → SittingFits t x
sitting_on s t x none parts on f = record {
  first = f.first;
  claim = claim_on s.stock.state.queue t.stock.state.queue on x.claim f.claim;
  passed = rw none (λ e free. tt);
  hold = hold_on s t x.first parts x.hold f.hold;
}

-- The same claims and holds.

has_same : {A : Type 0} (has : A → Option Sitting → Bool) → ((a : A) (x : Sitting) → has a (Some (from_start x)) ≡ has a (Some x)) → (a : A) (o : Option Sitting) → has a (option_map from_start o) ≡ has a o
has_same has same a None = refl
has_same has same a (Some x) = same a x

finds_anew : {A : Type 0} (has : A → Option Sitting → Bool) (f : A → Option ℕ) (h : HubState) → ((a : A) (x : Sitting) → has a (Some (from_start x)) ≡ has a (Some x)) → Finds has f h.chairs → Finds has f (anew h).chairs
finds_anew has f h same finds = λ a k. finds a k ∙ sym (ap (has a) (sitting_anew h k) ∙ has_same has same a (sitting_at h k))

pub claims_anew : (index : ClaimIndex) (h : HubState) → ClaimsOf index h.chairs → ClaimsOf index (anew h).chairs
claims_anew index h = finds_anew sitting_claims (claimer index) h (λ number x. refl)

pub holds_anew : (index : HoldIndex) (h : HubState) → HoldsOf index h.chairs → HoldsOf index (anew h).chairs
holds_anew index h = finds_anew holds_filed (holder_of index) h (λ file x. refl)

-- A list that is changed item by item from its front, as it is seen.

module _ {A : Type 0} (g : A → A) where
  pub seam : (xs : List A) (i : ℕ) (x : A) → i < length xs → get_or (map g (take i xs) ++ drop i xs) i x ≡ get_or xs i x
  seam [] i x lt = absurd (omega (arith, lt))
  seam (z ∷ zs) zero x lt = refl
  seam (z ∷ zs) (suc i) x lt = seam zs i x (omega (arith, lt))

  pub set_seam : (xs : List A) (i : ℕ) (x : A) → i < length xs → x ≡ get_or xs i x → set (map g (take i xs) ++ drop i xs) i (g x) ≡ map g (take (i + 1) xs) ++ drop (i + 1) xs
  set_seam [] i x lt is = absurd (omega (arith, lt))
  set_seam (z ∷ zs) zero x lt is = ap (λ (y : A). g y ∷ zs) is
  set_seam (z ∷ zs) (suc i) x lt is =
      ap (λ (l : List A). g z ∷ l) (set_seam zs i x (omega (arith, lt)) is)
      ∙ ap (λ (k : ℕ). map g (take k (z ∷ zs)) ++ drop k (z ∷ zs)) (let k : suc (i + 1) ≡ suc i + 1 = omega arith in k)

  pub all_done : (xs : List A) (i : ℕ) → length xs ≤ i → map g (take i xs) ++ drop i xs ≡ map g xs
  all_done [] zero le = refl
  all_done [] (suc i) le = refl
  all_done (x ∷ xs) zero le = absurd (omega (arith, le))
  all_done (x ∷ xs) (suc i) le = ap (λ (l : List A). g x ∷ l) (all_done xs i (omega (arith, le)))

module _ {A B : Type 0} (f : A → B) where
  pub length_seen : (xs : List A) → length (map f xs) ≡ length xs
  length_seen [] = refl
  length_seen (x ∷ xs) = ap suc (length_seen xs)

  pub get_seen : (xs : List A) (i : ℕ) (x : A) → get_or (map f xs) i (f x) ≡ f (get_or xs i x)
  get_seen [] i x = refl
  get_seen (y ∷ ys) zero x = refl
  get_seen (y ∷ ys) (suc i) x = get_seen ys i x

  pub set_seen : (xs : List A) (i : ℕ) (v : A) → map f (set xs i v) ≡ set (map f xs) i (f v)
  set_seen [] i v = refl
  set_seen (y ∷ ys) zero v = refl
  set_seen (y ∷ ys) (suc i) v = ap (λ (l : List B). f y ∷ l) (set_seen ys i v)
