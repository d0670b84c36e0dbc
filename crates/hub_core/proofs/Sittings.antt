-- Another session at a place of the code is another session at that seat.
use Rattle.std.proofs.Common.{◌≡◌, ℕ, zero, suc, ◌<◌, List, [], ◌∷◌, Option, None, map, length, option_map, refl, sym, ◌∙◌, ap, subst, slice_index_or, arith}
use Rattle.std.specs.Vec.{with_item}
use Rattle.hub_core.specs.declared.places.Place.{Place}
use Rattle.hub_core.specs.declared.places.Open.{Open}
use Rattle.hub_core.specs.declared.places.Seats.{Seats}
use Rattle.hub_core.specs.Hubs.{Sitting, Chair, HubState, chair_of, sitting_of, chair_in, put_chair, hub_state, sitting_at, with_sitting, busier}
use Rattle.ftn_addr.specs.Counts.{next_count}
use Rattle.hub_core.proofs.Chairs.{chair_in-map}
use Rattle.hub_core.proofs.Nodes.{put_is_set, chair_at}

length_map : (ps : List Place) → length (map chair_of ps) ≡ length ps
length_map [] = refl
length_map (p ∷ ps) = ap suc (length_map ps)

pub seats_after : (s : Seats) (seat : ℕ) (p : Place) (o : Option Open) → seat < length (map chair_of s.places.items) → p ≡ slice_index_or s.places.items seat p → hub_state (record s { places = with_item s.places seat (record { busy = p.busy; reads = p.reads; session = o }) }) ≡ with_sitting seat (option_map sitting_of o) (hub_state s)
seats_after s seat p o given is =
    let below : seat < length s.places.items = subst (λ (n : ℕ). seat < n) (length_map s.places.items) given in
    let p' : Place = record { busy = p.busy; reads = p.reads; session = o } in
    let own : chair_in (map chair_of s.places.items) seat ≡ chair_of p = chair_in-map s.places.items seat p below ∙ ap chair_of (sym is) in
    ap (λ (cs : List Chair). record (hub_state s) { chairs = cs }) (put_is_set s.places.items seat p' below ∙ ap (λ (c : Chair). put_chair seat (record c { sitting = option_map sitting_of o }) (map chair_of s.places.items)) (sym own))

pub seats_busier : (s : Seats) (seat : ℕ) (p : Place) (n : ℕ) → seat < length (map chair_of s.places.items) → p ≡ slice_index_or s.places.items seat p → n ≡ next_count p.busy → hub_state (record s { places = with_item s.places seat (record { busy = n; reads = p.reads; session = p.session }) }) ≡ busier seat (hub_state s)
seats_busier s seat p n given is count =
    let below : seat < length s.places.items = subst (λ (n : ℕ). seat < n) (length_map s.places.items) given in
    let p' : Place = record { busy = n; reads = p.reads; session = p.session } in
    let own : chair_in (map chair_of s.places.items) seat ≡ chair_of p = chair_in-map s.places.items seat p below ∙ ap chair_of (sym is) in
    ap (λ (cs : List Chair). record (hub_state s) { chairs = cs }) (put_is_set s.places.items seat p' below ∙ (ap (λ (k : ℕ). put_chair seat (record (chair_of p) { busy = k }) (map chair_of s.places.items)) count ∙ ap (λ (c : Chair). put_chair seat (record c { busy = next_count c.busy }) (map chair_of s.places.items)) (sym own)))

-- Sessions in and out.

put_put : (k : ℕ) (c d : Chair) (cs : List Chair) → put_chair k c (put_chair k d cs) ≡ put_chair k c cs
put_put zero c d [] = refl
put_put zero c d (x ∷ cs) = refl
put_put (suc k) c d [] = ap (λ xs. Rattle.hub_core.specs.Hubs.empty_chair ∷ xs) (put_put k c d [])
put_put (suc k) c d (x ∷ cs) = ap (λ xs. x ∷ xs) (put_put k c d cs)

put_same : (k : ℕ) (cs : List Chair) → k < length cs → put_chair k (chair_in cs k) cs ≡ cs
put_same k [] given = absurd (omega (arith, given))
put_same zero (x ∷ cs) given = refl
put_same (suc k) (x ∷ cs) given = ap (λ xs. x ∷ xs) (put_same k cs (omega (arith, given)))

pub sit_twice : (h : HubState) (seat : ℕ) (o p : Option Sitting) → with_sitting seat o (with_sitting seat p h) ≡ with_sitting seat o h
sit_twice h seat o p =
    ap (λ (c : Chair). record h { chairs = put_chair seat (record c { sitting = o }) (put_chair seat (record (chair_in h.chairs seat) { sitting = p }) h.chairs) }) (chair_at seat (record (chair_in h.chairs seat) { sitting = p }) h.chairs)
    ∙ ap (λ (cs : List Chair). record h { chairs = cs }) (put_put seat (record (chair_in h.chairs seat) { sitting = o }) (record (chair_in h.chairs seat) { sitting = p }) h.chairs)

pub sit_same : (h : HubState) (seat : ℕ) (o : Option Sitting) → seat < length h.chairs → o ≡ sitting_at h seat → with_sitting seat o h ≡ h
sit_same h seat o given is =
    ap (λ (p : Option Sitting). with_sitting seat p h) is ∙ ap (λ (cs : List Chair). record h { chairs = cs }) (put_same seat h.chairs given)

-- a session that was taken out and is put back
pub sit_back : (h : HubState) (seat : ℕ) (o : Option Sitting) → seat < length h.chairs → o ≡ sitting_at h seat → with_sitting seat o (with_sitting seat None h) ≡ h
sit_back h seat o given is = sit_twice h seat o None ∙ sit_same h seat o given is

pub chairs_put : (k : ℕ) (c : Chair) (cs : List Chair) → k < length cs → length (put_chair k c cs) ≡ length cs
chairs_put k c [] given = absurd (omega (arith, given))
chairs_put zero c (x ∷ cs) given = refl
chairs_put (suc k) c (x ∷ cs) given = ap suc (chairs_put k c cs (omega (arith, given)))

pub puts_alike : (k : ℕ) (c d : Chair) (cs : List Chair) → length (put_chair k c cs) ≡ length (put_chair k d cs)
puts_alike zero c d [] = refl
puts_alike zero c d (x ∷ cs) = refl
puts_alike (suc k) c d [] = ap suc (puts_alike k c d [])
puts_alike (suc k) c d (x ∷ cs) = ap suc (puts_alike k c d cs)

-- the seat was given still
pub given_still : (h : HubState) (seat : ℕ) (o : Option Sitting) → seat < length h.chairs → seat < length (with_sitting seat o h).chairs
given_still h seat o given = subst (λ (n : ℕ). seat < n) (sym (chairs_put seat (record (chair_in h.chairs seat) { sitting = o }) h.chairs given)) given
