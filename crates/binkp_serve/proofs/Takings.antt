-- A take-in outside a session: its rows, and the seat behind it.
use Rattle.std.proofs.Common.{◌≡◌, ℕ, ◌<◌, ◌≤◌, false, Option, Some, None, refl, sym, ◌∙◌, ap, subst}
use Rattle.ftn_addr.specs.Address.{Address}
use Rattle.ftn_addr.specs.Counts.{CountGrew}
use Rattle.ftn_addr.proofs.CountsGrow.{count_grew-refl}
use Rattle.hub_core.specs.Anew.{LooksAnew, anew}
use Rattle.hub_core.specs.Hubs.{Fitted, HubState, seat_part}
use Rattle.hub_core.proofs.Anew.{knows_anew, part_anew}
use Rattle.hub_core.proofs.Keeping.{opens_shelf}
use Rattle.inbound_files.specs.Giving.{StillHas}
use Rattle.node_model.specs.Desks.{DeskPart}
use Rattle.node_model.specs.StoreStates.{IfTold, Shelf, Stored, StoreStand, StoreState}
use Rattle.node_model.specs.Stores.{By_seat, IsShelf, StoreKept, StorePasses, Well}
use Rattle.outbound_desk.specs.Lines.{IsDeskReady}
use Rattle.outbound_desk.specs.TakenIn.{AreDrawn, TakenIn}
use Rattle.outbound_desk.proofs.Joining.{told_by}
use Rattle.outbound_desk.proofs.SeatTurns.{turn_leaves}
use Rattle.outbound_desk.proofs.Taking.{takes_all, takes_ruled}
use Rattle.outbound_store.specs.Calls.{CallOf}
use Rattle.outbound_take.specs.Ruled.{Ruled}
use Rattle.take_steps.specs.declared.wanting.Wanting.{Wanting}
use Rattle.inbound_files.proofs.Kept.{still_same}
use Rattle.binkp_serve.specs.Rests.{StaysReceived, StillTold}
use Rattle.binkp_serve.proofs.Staying.{Since, told_none}

-- the seat takes its turn, and then the calls of the take-in follow
pub takes_rows : {T : Type 0} (stand : T → StoreStand) (wanted : T → Option Wanting) (h : HubState) (seat : ℕ) (u : StoreStand) (turned new : T) → LooksAnew h → u.state.counts.broken ≡ None → Fitted u.state h → AreDrawn u.state → StoreKept u (By_seat seat) Well (stand turned) → wanted turned ≡ None
    → Ruled (λ (s : T) (t : T). CallOf (stand s) (wanted s) (stand t) (wanted t)) turned new → TakenIn h seat u (stand new) (wanted new)
takes_rows {T} stand wanted h seat u turned new anew whole fitted drawn turns unwanted calls =
    let still : (stand turned).state.counts.broken ≡ None = ap (λ (s : StoreState). s.counts.broken) turns.made ∙ whole in
    takes_all h seat u (stand turned) (stand new) (wanted new) anew whole fitted drawn turns
    (takes_ruled stand wanted (λ (s : T) (t : T). CallOf (stand s) (wanted s) (stand t) (wanted t)) (λ s t call. call.stepped) turned new still unwanted calls)

-- the seat is ready behind it
pub ready_taken : (h : HubState) (seat : ℕ) (home : Address) (u v : StoreStand) (wants : Option Wanting) → IsDeskReady u h seat home → TakenIn h seat u v wants → IsDeskReady v h seat home
ready_taken h seat home u v wants ready taken = record {
  ready = record { given = ready.ready.given; fitted = taken.fitted; settled = taken.settled };
  home_within = ready.home_within;
}

-- A hub whose sessions look anew has none open where none was, and tells the same.

pub closed_anew : (h g : HubState) (seat : ℕ) → g ≡ anew h → (seat_part h seat).open_now ≡ false → (seat_part g seat).open_now ≡ false
closed_anew h g seat same closed = ap (λ (x : HubState). (seat_part x seat).open_now) same ∙ ap (λ (p : DeskPart). p.open_now) (part_anew h seat) ∙ closed

pub told_anew : (h g : HubState) (seat : ℕ) (w : StoreStand) → g ≡ anew h → told_by g seat w ≡ told_by h seat w
told_anew h g seat w same = ap (λ (x : HubState). told_by x seat w) same ∙ knows_anew w.state.content w.state h seat

-- What the turn leaves.

shelf_told : (a : Stored) (c : Option Stored) (x : Shelf) → c ≡ Some a → IsShelf c x → StillHas a.stock.state x.state
shelf_told a c x is shelf = still_same a.stock.state x.state (ap (λ (s : Shelf). s.state) (subst (λ (o : Option Stored). IsShelf o x) is shelf))

turn_since : (seat : ℕ) (s t : StoreStand) (c : Option Stored) → s.state.content ≡ c → StoreKept s (By_seat seat) Well t → IfTold c (Since s t)
turn_since seat s t None is kept = tt
turn_since seat s t (Some a) is kept = λ k e after until image.
    opens_shelf (StorePasses s.state (By_seat seat)) (λ x. StillHas a.stock.state x.state) (λ x passes. shelf_told a s.state.content x is (turn_leaves s.state seat x passes)) e (kept.since k e after until image)

pub turn_stays : (seat : ℕ) (s t : StoreStand) → StoreKept s (By_seat seat) Well t → StaysReceived s t
turn_stays seat s t kept = record {
  told = subst (λ (x : StoreState). StillTold s.state.content x.content) (sym kept.made) (told_none s.state.content);
  later = kept.later;
  before = λ k e within image. (e, kept.before k e within image, refl);
  since = turn_since seat s t s.state.content refl kept;
  faults = subst (λ (x : StoreState). CountGrew s.state.counts.faults x.counts.faults) (sym kept.made) (count_grew-refl s.state.counts.faults);
}
