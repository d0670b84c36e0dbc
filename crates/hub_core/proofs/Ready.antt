-- What a ready desk knows of its session: what it holds is open with places reserved, as the store's calls want it.
use Rattle.std.proofs.Common.{◌≡◌, ◌≢◌, ℕ, zero, suc, ◌+◌, ◌-◌, ◌<◌, ◌≤◌, List, [], ◌∷◌, Option, Some, None, length, map, refl, sym, ◌∙◌, ap, subst, arith}
use Rattle.ftn_addr.specs.Address.{Address}
use Rattle.node_model.specs.Node.{Hold, Seat, Node, seat_in, session_at}
use Rattle.node_model.specs.Sound.{places_of, places_in, all_places}
use Rattle.node_model.specs.Stores.{Stored, StoreState, StoreTied}
use Rattle.hub_core.specs.Hubs.{Taking, Sitting, HubState, HubFits, Fitted, IfHeld, HoldFits, IsReady, sitting_at, session_over, node_with, claim_places_of, hold_places_of}
use Rattle.hub_core.specs.Steps.{Holds, IfHolds, ended}
use Rattle.hub_core.proofs.Nodes.{session_is}
use Rattle.hub_core.proofs.Ends.{Sits, released_is}
use Rattle.hub_core.specs.HubLaws.{held_told}

-- a seat's places are among all
pub few_places : (k : ℕ) (seats : List Seat) → places_of (seat_in seats k) ≤ all_places seats
few_places zero [] = omega arith
few_places (suc k) [] = omega arith
few_places zero (x ∷ seats) = omega arith
few_places (suc k) (x ∷ seats) = let h = few_places k seats in omega (arith, h)

-- those of a session are reserved
pub places_reserved : (a : Stored) (s : StoreState) (h : HubState) (seat : ℕ) (x : Sitting) → HubFits a s h → sitting_at h seat ≡ Some x → claim_places_of x.claim + hold_places_of x.hold ≤ s.reserved
places_reserved a s h seat x f sits =
    let few = few_places seat (node_with a s h).seats in
    let mine : places_in (session_at (node_with a s h) seat) ≡ claim_places_of x.claim + hold_places_of x.hold = ap places_in (session_is a s h seat x sits) in
    let all = f.sound.places.all in
    omega (arith, few, mine, all)

held_holds : (a : Stored) (s : StoreState) (h : HubState) (seat : ℕ) (x : Sitting) (t : Taking) → HubFits a s h → sitting_at h seat ≡ Some x → x.hold ≡ Some t → IfHeld s x.first (Some t) → Holds s x.first t
held_holds a s h seat x t f sits is held =
    let told = held_told a s x.first t f.stock held.part in
    let w : Hold = record { number = t.part; from = x.first; key = t.key; bytes = Rattle.node_model.specs.Stocks.body_of t.part a.stock; stored = Rattle.std.proofs.Common.true; taking = t.taking } in
    let at = session_is a s h seat x sits in
    let holds : (session_over a.stock x).hold ≡ Some w = ap (Rattle.hub_core.specs.Hubs.hold_over a.stock x.first) is in
    let fits = (f.sound.holds.each seat (session_over a.stock x) w at holds).fits in
    let place = f.sound.places.holds seat (session_over a.stock x) w at holds in
    let len = told.len in
    let reserved = places_reserved a s h seat x f sits in
    let mine : hold_places_of x.hold ≡ t.places = ap hold_places_of is in
    record {
      part = held.part;
      fits = omega (arith, fits, len);
      place = omega (arith, place, mine);
      reserved = omega (arith, reserved, mine);
    }

pub sits_hold : (a : Stored) (s : StoreState) (h : HubState) (seat : ℕ) (x : Sitting) → HubFits a s h → sitting_at h seat ≡ Some x → IfHolds s x.first x.hold
sits_hold a s h seat x f sits = go x.hold refl (f.sittings seat x sits).hold
  where
    go : (o : Option Taking) → x.hold ≡ o → IfHeld s x.first o → IfHolds s x.first o
    go None is held = tt
    go (Some t) is held = held_holds a s h seat x t f sits is held

-- the place of a claim is there once the hold has ended
pub claim_reserved : (a : Stored) (s : StoreState) (h : HubState) (seat : ℕ) (x : Sitting) → Sits a s h seat x → claim_places_of x.claim ≤ (ended x.first x.hold s).reserved
claim_reserved a s h seat x sits =
    let all = places_reserved a s h seat x sits.fits sits.sits in
    let is = ap (λ (n : Node). n.reserved) (released_is a s h seat x sits) in
    omega (arith, all, is)

-- the store's next records are another seat's, and nothing else changed
pub turn_fits : (a : Stored) (s t : StoreState) (h : HubState) (seat : ℕ) → t ≡ record s { seat = seat } → HubFits a s h → HubFits a t h
turn_fits a s t h seat is f =
    subst (λ (x : StoreState). HubFits a x h) (sym is)
    (record { stock = f.stock; sittings = λ k x at. let y = f.sittings k x at in record { first = y.first; claim = y.claim; passed = y.passed; hold = go x.first x.hold y.hold }; parts = f.parts; sound = f.sound })
  where
    go : (from : Address) (o : Option Taking) → IfHeld s from o → IfHeld (record s { seat = seat }) from o
    go from None held = tt
    go from (Some w) held = record { part = held.part; kept = held.kept }

pub turn_sits : (a : Stored) (s t : StoreState) (h : HubState) (seat : ℕ) (x : Sitting) → t ≡ record s { seat = seat } → HubFits a s h → StoreTied t → sitting_at h seat ≡ Some x → Sits a t h seat x
turn_sits a s t h seat x is f tied sits =
    record { fits = turn_fits a s t h seat is f; sits = sits; seat_is = ap (λ (y : StoreState). y.seat) is; tied = tied }
