-- Sets of places: what one has, and their addresses in order.
use Rattle.std.proofs.Common.{◌≡◌, ℕ, Bool, true, false, ◌&&◌, ◌==◌, List, [], ◌∷◌, map, refl, sym, ap, subst, ◌∙◌, inl, inr, ⊎_elim, cond, arith}
use Rattle.std.specs.Prelude.{◌||◌}
use Rattle.std.specs.BTreeMap.{is_at}
use Rattle.std.specs.BTreeSet.{BTreeSet, contains}
use Rattle.std.specs.List.{AllByRecursion, list_any}
use Rattle.std.specs.List.Sorted.{IsStrictlySortedBy}
use Rattle.std.specs.declared.cmp.Ordering.{Ordering}
use Rattle.std.specs.declared.cmp.Ordering.TheVariants.{Less, Equal, Greater}
use Rattle.std.specs.Ordering.{is_eq, ordering_then, nat_cmp}
use Rattle.std.proofs.lemmas.Bool.Decides.{Decides-eqb, nat_tests}
use Rattle.ftn_addr.specs.Address.{Address}
use Rattle.node_model.specs.Lists.{Member}
use Rattle.node_model.proofs.Lists.{and_true, off, or_cases, or_true, or_true_right, eqb_refl, and_both}
use Rattle.outbound_places.specs.declared.place.Place.{Place}
use Rattle.outbound_places.specs.declared.set.PlaceSet.{PlaceSet}
use Rattle.outbound_places.specs.contracts.place.PlaceOrd.TheImpl as places
use Rattle.outbound_places.specs.Places.{HasAddress, IsRising, address_at, has_place, in_order, same_place}

abbrev pub by_place : Place → Place → Ordering
by_place = places.cmp-value.it

-- where places compare equal

then_eq : (o p : Ordering) → is_eq (ordering_then o p) ≡ (is_eq o && is_eq p)
then_eq Less p = refl
then_eq Equal p = refl
then_eq Greater p = refl

nat_eq_cmp : (a b : ℕ) → is_eq (nat_cmp a b) ≡ (a == b)
nat_eq_cmp a b = grind (arith, nat_tests)

then_and : (o p : Ordering) (a b : Bool) → is_eq o ≡ a → is_eq p ≡ b → is_eq (ordering_then o p) ≡ (a && b)
then_and o p a b one two = then_eq o p ∙ rw (one, two) refl

place-cmp : (p q : Place) → is_eq (by_place p q) ≡ same_place p q
place-cmp p q =
    then_and _ _ _ _ (nat_eq_cmp p.zone q.zone)
    (then_and _ _ _ _ (nat_eq_cmp p.net q.net)
    (then_and _ _ _ _ (nat_eq_cmp p.node q.node) (nat_eq_cmp p.point q.point)))

pub same_place_is : (p q : Place) → same_place p q ≡ true → p ≡ q
same_place_is p q e =
    let a = and_true (p.zone == q.zone) _ e in
    let b = and_true (p.net == q.net) _ a.1 in
    let c = and_true (p.node == q.node) _ b.1 in
    let zone : p.zone ≡ q.zone = (Decides-eqb p.zone q.zone).0 a.0 in
    let net : p.net ≡ q.net = (Decides-eqb p.net q.net).0 b.0 in
    let node : p.node ≡ q.node = (Decides-eqb p.node q.node).0 c.0 in
    let point : p.point ≡ q.point = (Decides-eqb p.point q.point).0 c.1 in
    λ i. record { zone = zone i; net = net i; node = node i; point = point i }

pub same_place-refl : (p : Place) → same_place p p ≡ true
same_place-refl p = and_both (p.zone == p.zone) _ (eqb_refl p.zone) (and_both (p.net == p.net) _ (eqb_refl p.net) (and_both (p.node == p.node) _ (eqb_refl p.node) (eqb_refl p.point)))

flips : (p q : Place) → same_place p q ≡ same_place q p
flips p q = rw (flip p.zone q.zone, flip p.net q.net, flip p.node q.node, flip p.point q.point) refl
  where
    flip : (m n : ℕ) → (m == n) ≡ (n == m)
    flip m n = grind (arith, nat_tests)

any_same : {K : Type 0} (p q : K → Bool) → ((k : K) → p k ≡ q k) → (ks : List K) → list_any p ks ≡ list_any q ks
any_same p q same [] = refl
any_same p q same (k ∷ ks) = rw (same k, any_same p q same ks) refl

contains-place : (s : BTreeSet Place) (p : Place) → contains by_place s p ≡ list_any (λ q. same_place p q) s.keys
contains-place s p = any_same (λ q. is_at (by_place p) q) (λ q. same_place p q) (λ q. place-cmp p q) s.keys

-- one more is in the set
pub inserted : (old new : BTreeSet Place) (place : Place) → ((q : Place) → contains by_place new q ≡ cond (is_at (by_place place) q) true (contains by_place old q))
    → (p : Place) → has_place (record { places = new }) p ≡ (has_place (record { places = old }) p || same_place p place)
inserted old new place updates p =
    sym (contains-place new p) ∙ updates p ∙ rw (place-cmp place p ∙ flips place p, contains-place old p) (or_there (same_place p place) (list_any (λ q. same_place p q) old.keys))
  where
    or_there : (s x : Bool) → cond s true x ≡ (x || s)
    or_there true true = refl
    or_there true false = refl
    or_there false true = refl
    or_there false false = refl

-- their addresses

below_all : (domain : List ℕ) (p : Place) (ps : List Place) → AllByRecursion (λ q. by_place p q ≡ Less) ps → AllByRecursion (λ b. in_order (address_at domain p) b ≡ Less) (map (address_at domain) ps)
below_all domain p [] a = tt
below_all domain p (q ∷ ps) a = (a.0, below_all domain p ps a.1)

rising_in : (domain : List ℕ) (ps : List Place) → IsStrictlySortedBy by_place ps → IsRising (map (address_at domain) ps)
unfolding IsStrictlySortedBy
rising_in domain [] a = tt
rising_in domain (p ∷ ps) a = (below_all domain p ps a.0, rising_in domain ps a.1)

pub rising : (domain : List ℕ) (ps : List Place) (found : List Address) → found ≡ map (address_at domain) ps → IsStrictlySortedBy by_place ps → IsRising found
rising domain ps found is a = subst IsRising (sym is) (rising_in domain ps a)

only_in : (domain : List ℕ) (ps : List Place) (a : Address) → Member a (map (address_at domain) ps) → HasAddress domain (record { places = record { keys = ps } }) a
only_in domain [] a m = absurd m
only_in domain (p ∷ ps) a (inl is) = record { place = p; there = or_true (same_place p p) _ (same_place-refl p); is = is }
only_in domain (p ∷ ps) a (inr m) = let h = only_in domain ps a m in record { place = h.place; there = or_true_right (same_place h.place p) _ h.there; is = h.is }

pub only : (domain : List ℕ) (set : PlaceSet) (found : List Address) → found ≡ map (address_at domain) set.places.keys → (a : Address) → Member a found → HasAddress domain set a
only domain set found is a m = only_in domain set.places.keys a (subst (λ (l : List Address). Member a l) is m)

all_in : (domain : List ℕ) (ps : List Place) (p : Place) → list_any (λ q. same_place p q) ps ≡ true → Member (address_at domain p) (map (address_at domain) ps)
all_in domain [] p e = off (sym e)
all_in domain (q ∷ ps) p e =
    ⊎_elim (λ same. inl (ap (address_at domain) (same_place_is p q same))) (λ rest. inr (all_in domain ps p rest)) (or_cases (same_place p q) _ e)

pub all : (domain : List ℕ) (set : PlaceSet) (found : List Address) → found ≡ map (address_at domain) set.places.keys → (p : Place) → has_place set p ≡ true → Member (address_at domain p) found
all domain set found is p there = subst (λ (l : List Address). Member (address_at domain p) l) (sym is) (all_in domain set.places.keys p there)
