-- The node of a hub, part by part: its seats over another stock, and a node with other parts.
use Rattle.std.proofs.Common.{◌≡◌, ◌≢◌, ℕ, zero, suc, ◌<◌, List, [], ◌∷◌, Option, Some, None, map, length, option_map, refl, sym, ◌∙◌, ap, subst, slice_set, arith, ⊎_elim}
use Rattle.node_model.proofs.Lists.{decide_line}
use Rattle.node_model.specs.Node.{Hold, Session, Seat, Node, empty_seat, seat_in, put_seat, session_at}
use Rattle.node_model.specs.Stocks.{Stock, part_in, bytes_of_part}
use Rattle.node_model.specs.Stores.{Stored, StoreState}
use Rattle.hub_core.specs.declared.places.Place.{Place}
use Rattle.hub_core.specs.Hubs.{Taking, Sitting, Chair, HubState, chair_of, chair_in, put_chair, with_sitting, sitting_at, hold_over, session_over, seat_over, node_with}
use Rattle.hub_core.specs.HubLaws.{seat_of, session_of}

pub session_is : (a : Stored) (s : StoreState) (h : HubState) (k : ℕ) (x : Sitting) → sitting_at h k ≡ Some x → session_at (node_with a s h) k ≡ Some (session_over a.stock x)
session_is a s h k x is = session_of a s h k ∙ ap (option_map (session_over a.stock)) is

-- the seat that is put
pub map_put : (stock : Stock) (k : ℕ) (c : Chair) (cs : List Chair) → map (seat_over stock) (put_chair k c cs) ≡ put_seat k (seat_over stock c) (map (seat_over stock) cs)
map_put stock zero c [] = refl
map_put stock zero c (x ∷ cs) = refl
map_put stock (suc k) c [] = ap (λ xs. empty_seat ∷ xs) (map_put stock k c [])
map_put stock (suc k) c (x ∷ cs) = ap (λ xs. seat_over stock x ∷ xs) (map_put stock k c cs)

pub put_is_set : (places : List Place) (k : ℕ) (p : Place) → k < length places → map chair_of (slice_set places k p) ≡ put_chair k (chair_of p) (map chair_of places)
put_is_set [] k p below = absurd (omega arith)
put_is_set (x ∷ places) zero p below = refl
put_is_set (x ∷ places) (suc k) p below = ap (λ cs. chair_of x ∷ cs) (put_is_set places k p (omega arith))

-- Sessions at other seats are told the same.
abbrev pub OthersStay : Stock → Stock → List Chair → ℕ → Type 0
OthersStay old new cs seat = (k : ℕ) (x : Sitting) → k ≢ seat → (chair_in cs k).sitting ≡ Some x → session_over new x ≡ session_over old x

pub seat_same : (old new : Stock) (c : Chair) → ((x : Sitting) → c.sitting ≡ Some x → session_over new x ≡ session_over old x) → seat_over new c ≡ seat_over old c
seat_same old new c same = go c.sitting same
  where
    go : (o : Option Sitting) → ((x : Sitting) → o ≡ Some x → session_over new x ≡ session_over old x) → seat_over new (record c { sitting = o }) ≡ seat_over old (record c { sitting = o })
    go None f = refl
    go (Some x) f = ap (λ (s : Session). record (seat_over old c) { session = Some s }) (f x refl)

pub all_same : (old new : Stock) (cs : List Chair) → ((k : ℕ) (x : Sitting) → (chair_in cs k).sitting ≡ Some x → session_over new x ≡ session_over old x) → map (seat_over new) cs ≡ map (seat_over old) cs
all_same old new [] same = refl
all_same old new (c ∷ cs) same =
    λ i. seat_same old new c (same zero) i ∷ all_same old new cs (λ k. same (suc k)) i

pub others_same : (old new : Stock) (seat : ℕ) (v : Seat) (cs : List Chair) → OthersStay old new cs seat → put_seat seat v (map (seat_over new) cs) ≡ put_seat seat v (map (seat_over old) cs)
others_same old new zero v [] stay = refl
others_same old new (suc k) v [] stay = refl
others_same old new zero v (c ∷ cs) stay = ap (λ xs. v ∷ xs) (all_same old new cs (λ k x at. stay (suc k) x (λ e. cc) at))
others_same old new (suc seat) v (c ∷ cs) stay =
    λ i. seat_same old new c (λ x at. stay zero x (λ e. cc) at) i ∷ others_same old new seat v cs (λ k x apart at. stay (suc k) x (λ e. apart (suc_same k seat e)) at) i
  where
    suc_same : (m n : ℕ) → suc m ≡ suc n → m ≡ n
    suc_same m n e = omega (arith, e)

-- the seats with another session at one of them, over another stock
pub seats_put : (old new : Stock) (h : HubState) (seat : ℕ) (o : Option Sitting) (v : Option Session) → OthersStay old new h.chairs seat → option_map (session_over new) o ≡ v → map (seat_over new) (with_sitting seat o h).chairs ≡ put_seat seat (record (seat_in (map (seat_over old) h.chairs) seat) { session = v }) (map (seat_over old) h.chairs)
seats_put old new h seat o v stay is =
    let c = chair_in h.chairs seat in
    map_put new seat (record c { sitting = o }) h.chairs
    ∙ (others_same old new seat (seat_over new (record c { sitting = o })) h.chairs stay
    ∙ ap (λ (x : Seat). put_seat seat x (map (seat_over old) h.chairs)) (ap (λ (s : Option Session). record (seat_over new c) { session = s }) is ∙ sym (ap (λ (x : Seat). record x { session = v }) (seat_of old h.chairs seat))))

-- where the held part has the same bytes, the session is told the same
pub session_same : (old new : Stock) (x : Sitting) → ((t : Taking) → x.hold ≡ Some t → part_in t.part new.parts ≡ part_in t.part old.parts) → session_over new x ≡ session_over old x
session_same old new x same = ap (λ (h : Option Hold). record (session_over old x) { hold = h }) (go x.hold same)
  where
    go : (o : Option Taking) → ((t : Taking) → o ≡ Some t → part_in t.part new.parts ≡ part_in t.part old.parts) → hold_over new x.first o ≡ hold_over old x.first o
    go None f = refl
    go (Some t) f =
        ap (λ (b : List ℕ). Some (record { number = t.part; from = x.first; key = t.key; bytes = b; stored = Rattle.std.proofs.Common.true; taking = t.taking })) (ap bytes_of_part (f t refl))

-- two nodes with the same parts
pub node_eq : (n m : Node) → n.state ≡ m.state → n.log ≡ m.log → n.seats ≡ m.seats → n.settings ≡ m.settings → n.begun ≡ m.begun → n.records ≡ m.records → n.reserved ≡ m.reserved → n.staged ≡ m.staged → n.drawn ≡ m.drawn → n.faults ≡ m.faults → n.fulls ≡ m.fulls → n.broken ≡ m.broken → n.last_given ≡ m.last_given → n ≡ m
node_eq n m state log seats settings begun records reserved staged drawn faults fulls broken last_given =
    λ i. record { state = state i; log = log i; seats = seats i; settings = settings i; begun = begun i; records = records i; reserved = reserved i; staged = staged i; drawn = drawn i; faults = faults i; fulls = fulls i; broken = broken i; last_given = last_given i }

-- The session that is read.

pub chair_at : (k : ℕ) (c : Chair) (cs : List Chair) → chair_in (put_chair k c cs) k ≡ c
chair_at zero c [] = refl
chair_at zero c (x ∷ cs) = refl
chair_at (suc k) c [] = chair_at k c []
chair_at (suc k) c (x ∷ cs) = chair_at k c cs

pub chair_apart : (k : ℕ) (c : Chair) (cs : List Chair) (j : ℕ) → j ≢ k → chair_in (put_chair k c cs) j ≡ chair_in cs j
chair_apart zero c [] zero other = absurd (other refl)
chair_apart zero c [] (suc j) other = refl
chair_apart zero c (x ∷ cs) zero other = absurd (other refl)
chair_apart zero c (x ∷ cs) (suc j) other = refl
chair_apart (suc k) c [] zero other = refl
chair_apart (suc k) c [] (suc j) other = chair_apart k c [] j (λ e. other (ap suc e))
chair_apart (suc k) c (x ∷ cs) zero other = refl
chair_apart (suc k) c (x ∷ cs) (suc j) other = chair_apart k c cs j (λ e. other (ap suc e))

pub sits_at : (h : HubState) (seat : ℕ) (o : Option Sitting) → sitting_at (with_sitting seat o h) seat ≡ o
sits_at h seat o = ap (λ (c : Chair). c.sitting) (chair_at seat (record (chair_in h.chairs seat) { sitting = o }) h.chairs)

pub sits_apart : (h : HubState) (seat : ℕ) (o : Option Sitting) (k : ℕ) → k ≢ seat → sitting_at (with_sitting seat o h) k ≡ sitting_at h k
sits_apart h seat o k other = ap (λ (c : Chair). c.sitting) (chair_apart seat (record (chair_in h.chairs seat) { sitting = o }) h.chairs k other)

-- what holds of the sessions at other seats, and of the new one, holds of all
pub sittings_put : (P : Sitting → Type 0) (h : HubState) (seat : ℕ) (o : Option Sitting) → ((k : ℕ) (x : Sitting) → k ≢ seat → sitting_at h k ≡ Some x → P x) → ((x : Sitting) → o ≡ Some x → P x) → (k : ℕ) (x : Sitting) → sitting_at (with_sitting seat o h) k ≡ Some x → P x
sittings_put P h seat o others own k x at =
    ⊎_elim (λ (here : k ≡ seat). own x (sym (sits_at h seat o) ∙ (ap (sitting_at (with_sitting seat o h)) (sym here) ∙ at))) (λ (apart : k ≢ seat). others k x apart (sym (sits_apart h seat o k apart) ∙ at)) (decide_line k seat)
