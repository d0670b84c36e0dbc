-- Which seat has claimed an entry, as an index finds it (own).
use Rattle.std.specs.Prelude.{◌≡◌, ◌==◌, ◌⊎◌, ℕ, Bool, true, false, cond, is_some, List, Option, Some, None}
use Rattle.std.specs.BTreeMap.{get}
use Rattle.std.specs.Ordering.{nat_cmp}
use Rattle.node_model.specs.declared.desk.Offer.{Offer}
use Rattle.node_model.specs.declared.desk.Offer.TheVariants as O
use Rattle.hub_core.specs.declared.claim_index.ClaimIndex.{ClaimIndex}
use Rattle.hub_core.specs.Hubs.{Sitting, Chair, chair_in}
use Rattle.hub_core.specs.Sending.{sitting_claims}
use Rattle.hub_core.specs.Skips.{Skipped, is_skipped}

-- it is that number
abbrev pub is_just : ℕ → Option ℕ → Bool
is_just k None = false
is_just k (Some n) = n == k

-- each of these seats is found at what its session has, and no other
abbrev pub Finds : {A : Type 0} → (A → Option Sitting → Bool) → (A → Option ℕ) → List Chair → Type 0
Finds {A} has seat_of chairs = (a : A) (k : ℕ) → is_just k (seat_of a) ≡ has a (chair_in chairs k).sitting

-- the seat that has claimed the entry
abbrev pub claimer : ClaimIndex → ℕ → Option ℕ
claimer index number = get nat_cmp index.seats number

-- the index has the claims of these seats
abbrev pub ClaimsOf : ClaimIndex → List Chair → Type 0
ClaimsOf index chairs = Finds sitting_claims (claimer index) chairs

-- a seat has claimed it, as the index finds, or the session has skipped it
abbrev pub KeptFrom : ClaimIndex → List ℕ → ℕ → Type 0
KeptFrom index skipped number = (is_some (claimer index number) ≡ true) ⊎ (is_skipped skipped number ≡ true)

-- the session has skipped it, or, where an index of claims counts, a seat has claimed it
abbrev pub KeptIf : Option ClaimIndex → List ℕ → ℕ → Type 0
KeptIf None skipped number = Skipped skipped number
KeptIf (Some index) skipped number = KeptFrom index skipped number

-- what an offer does with the index: the entry, which no seat had claimed, is this seat's
abbrev pub Claims : ℕ → Offer → ClaimIndex → ClaimIndex → Type 0
Claims seat (O.File number key) old new =
    (claimer old number ≡ None) × ((n : ℕ) → claimer new n ≡ cond (is_just n (Some number)) (Some seat) (claimer old n))
Claims seat O.Nothing old new = (n : ℕ) → claimer new n ≡ claimer old n
