-- Leaving: a session ends at its store, which is a step of the hub's node.
use Rattle.std.proofs.Common.{◌≡◌, ◌≢◌, ◌⊎◌, ℕ, ◌+◌, ◌-◌, ◌≤◌, ◌<◌, List, [], ◌∷◌, ◌++◌, Option, Some, None, map, length, option_map, refl, sym, ◌∙◌, ap, subst, inl, inr, arith}
use Rattle.ftn_addr.specs.Address.{Address}
use Rattle.node_model.specs.Items.{Mark}
use Rattle.node_model.specs.Node.{Node}
use Rattle.node_model.specs.Rows.{left_by, LeaveRow}
use Rattle.node_model.specs.declared.store.StoreFault.{StoreFault}
use Rattle.node_model.specs.declared.store.StoreFault.TheVariants as D
use Rattle.node_model.specs.Calls.{Leave_call, Settled, Refused, NodeStep, Counts, After_it}
use Rattle.node_model.specs.Stocks.{part_in}
use Rattle.node_model.specs.Stores.{Shelf, Stored, StoreState, StoreStand, StoreTied, IsShelf, stored_after}
use Rattle.node_model.specs.Stores as T
use Rattle.node_model.proofs.StepSound.{step_sound}
use Rattle.hub_core.specs.Hubs.{Taking, Sitting, Chair, HubState, SittingFits, chair_in, with_sitting, sitting_at, session_over, node_with, hold_places_of, claim_places_of, sitting_part}
use Rattle.node_model.specs.Desks.{part_after}
use Rattle.hub_core.specs.HubCalls.{ShelfPasses, HasTurn, Does}
use Rattle.hub_core.specs.Steps.{Leaves, StaysSettled, OneOf, BrokeBy, loses_none, fault_in, left_state, part_under}
use Rattle.hub_core.proofs.Keeping.{leaves_as, leaves_none}
use Rattle.hub_core.proofs.Breaking.{same_but}
use Rattle.hub_core.proofs.Filing.{ended_seat}
use Rattle.hub_core.proofs.Owning.{own_same, own_sits}
use Rattle.hub_core.proofs.Turning.{fitted_now, sits_now, before_passes, made_does, broken_does}
use Rattle.hub_core.proofs.Nodes.{seats_put, session_same, session_is, node_eq, sittings_put, OthersStay, chair_at, sits_at}
use Rattle.hub_core.proofs.Ends.{Sits, marked_stored, ended_stored, ended_content, ended_counts, same_content, released_is}
use Rattle.hub_core.proofs.Marking.{by_part_parts, ended_fits, ended_parts, ended_queue, sitting_stays}
use Rattle.hub_core.proofs.Stepping.{Stepped, passes_by}
use Rattle.hub_core.specs.HubLaws.{session_of}

pub ended_stored_parts : (a : Stored) (s : StoreState) (from : Address) (o : Option Taking) → (ended_stored from o s a).stock.parts ≡ a.stock.parts
ended_stored_parts a s from None = refl
ended_stored_parts a s from (Some t) = go (T.is_ahead (part_under from t) s)
  where
    go : (b : Rattle.std.proofs.Common.Bool) → (marked_stored b (part_under from t) s.seat a).stock.parts ≡ a.stock.parts
    go Rattle.std.proofs.Common.true = by_part_parts t.part a.stock
    go Rattle.std.proofs.Common.false = refl

pub ended_others : (a : Stored) (s : StoreState) (from : Address) (o : Option Taking) (cs : List Chair) (seat : ℕ) → OthersStay a.stock (ended_stored from o s a).stock cs seat
ended_others a s from o cs seat = λ k x apart at. session_same a.stock (ended_stored from o s a).stock x (λ t held. ap (λ (ps : List Mark). part_in t.part ps) (ended_stored_parts a s from o))

back : (r : ℕ) (held claimed : ℕ) → (r - held) - claimed ≡ r - (claimed + held)
back r held claimed = omega arith

pub left_is : (a : Stored) (s : StoreState) (h : HubState) (seat : ℕ) (x : Sitting) → Sits a s h seat x → node_with (ended_stored x.first x.hold s a) (left_state x s) (with_sitting seat None h) ≡ left_by seat (session_over a.stock x) (node_with a s h)
left_is a s h seat x sits =
    let e = released_is a s h seat x sits in
    node_eq (node_with (ended_stored x.first x.hold s a) (left_state x s) (with_sitting seat None h)) (left_by seat (session_over a.stock x) (node_with a s h))
    (ap (λ (n : Node). n.state) e) (ap (λ (n : Node). n.log) e)
    (seats_put a.stock (ended_stored x.first x.hold s a).stock h seat None None (ended_others a s x.first x.hold h.chairs seat) refl)
    refl refl (ap (λ (n : Node). n.records) e)
    (ap (λ (n : Node). n.reserved - claim_places_of x.claim) e ∙ back s.reserved (hold_places_of x.hold) (claim_places_of x.claim))
    (ap (λ (n : Node). n.staged) e) (ap (λ (n : Node). n.drawn) e) (ap (λ (n : Node). n.faults) e) (ap (λ (n : Node). n.fulls) e) (ap (λ (n : Node). n.broken) e) (ap (λ (n : Node). n.last_given) e)

left_row : (a : Stored) (s : StoreState) (h : HubState) (seat : ℕ) (x : Sitting) → Sits a s h seat x → LeaveRow seat (node_with a s h) (node_with (ended_stored x.first x.hold s a) (left_state x s) (with_sitting seat None h))
left_row a s h seat x sits = inl (record { session = session_over a.stock x; has = session_is a s h seat x sits.sits; after = left_is a s h seat x sits })

pub left_stepped : (a : Stored) (s : StoreState) (h : HubState) (seat : ℕ) (x : Sitting) → Sits a s h seat x → s.counts.broken ≡ None → Stepped seat Leave_call Settled s h a (left_state x s) (with_sitting seat None h)
left_stepped a s h seat x sits whole =
    let e = ended_fits a s h seat x sits in
    let f = sits.fits in
    let step : NodeStep seat (node_with a s h) Leave_call Settled (node_with (ended_stored x.first x.hold s a) (left_state x s) (with_sitting seat None h)) = (inl whole, left_row a s h seat x sits) in
    record {
      change = ended_stored x.first x.hold s;
      content = ended_content x.first x.hold s;
      step = step;
      fits = record {
        stock = e.stock;
        sittings = sittings_put (λ (y : Sitting). SittingFits (left_state x s) y) h seat None
            (λ k y apart at. sitting_stays s (left_state x s) y (ended_parts x.first x.hold s) (ended_queue x.first x.hold s) (f.sittings k y at))
            (λ y is. absurd (cc));
        parts = e.parts;
        sound = step_sound seat (node_with a s h) Leave_call Settled _ step (λ unbroken. f.sound) (ended_broken ∙ whole);
      };
      counts = (ap (λ (c : Chair). c.busy) (chair_at seat (record (chair_in h.chairs seat) { sitting = None }) h.chairs), ap (λ (c : Chair). c.reads) (chair_at seat (record (chair_in h.chairs seat) { sitting = None }) h.chairs));
    }
  where
    ended_broken : (left_state x s).counts.broken ≡ s.counts.broken
    ended_broken = ap (λ (n : Node). n.broken) (released_is a s h seat x sits)

-- The desk's call.

left_passes : (v : StoreStand) (h : HubState) (seat : ℕ) (x : Sitting) (b : HasTurn v h seat) → StoreTied v.state → sitting_at h seat ≡ Some x → (d : Shelf) → OneOf (v.state.content ∷ (left_state x v.state).content ∷ []) d → ShelfPasses v.state.content v.state h seat Leave_call d
left_passes v h seat x b tied sits d (inl is) = before_passes v.state.content v.state h seat Leave_call d is
left_passes v h seat x b tied sits d (inr (inl is)) =
    let f = fitted_now v h seat b in
    let s = sits_now v h seat x b tied sits in
    passes_by v.state.content (ended_stored x.first x.hold v.state) v.state h seat Leave_call f.keeps d f.tells (After_it b.whole Settled (node_with (ended_stored x.first x.hold v.state f.keeps) (left_state x v.state) (with_sitting seat None h)) (left_row f.keeps v.state h seat x s) refl) (subst (λ (c : Option Stored). IsShelf c d) (ended_content x.first x.hold v.state) is)
left_passes v h seat x b tied sits d (inr (inr none)) = absurd none

pub leave_does : (v w : StoreStand) (h : HubState) (seat : ℕ) (x : Sitting) → HasTurn v h seat → StoreTied v.state → sitting_at h seat ≡ Some x → w.state ≡ left_state x v.state → Leaves (OneOf (v.state.content ∷ (left_state x v.state).content ∷ [])) v w → StaysSettled v w → Does v h seat Leave_call Settled w (with_sitting seat None h)
leave_does v w h seat x b tied sits after l settled =
    let f = fitted_now v h seat b in
    let s = sits_now v h seat x b tied sits in
    let step : Stepped seat Leave_call Settled v.state h f.keeps w.state (with_sitting seat None h) = subst (λ (t : StoreState). Stepped seat Leave_call Settled v.state h f.keeps t (with_sitting seat None h)) (sym after) (left_stepped f.keeps v.state h seat x s b.whole) in
    let counts : w.state.counts ≡ v.state.counts = ap (λ (t : StoreState). t.counts) after ∙ ended_counts x.first x.hold v.state in
    made_does v w h (with_sitting seat None h) seat Leave_call Settled b (inl b.whole, counts) step (leaves_as _ _ v w (left_passes v h seat x b tied sits) l) (settled (b.ready.settled b.whole) (ap (λ (c : Counts). c.broken) counts ∙ b.whole)) (ap sitting_part (sits_at h seat None)) (own_sits seat None h w b.ready.given (ap (λ (t : StoreState). t.seat) after ∙ (ended_seat x.first x.hold v.state ∙ b.seat_is)))

pub leave_broken : (v w : StoreStand) (h : HubState) (seat : ℕ) (x : Sitting) (fault : StoreFault) → HasTurn v h seat → StoreTied v.state → sitting_at h seat ≡ Some x → BrokeBy (OneOf (v.state.content ∷ (left_state x v.state).content ∷ [])) loses_none fault v.state w.state → Leaves (OneOf (v.state.content ∷ (left_state x v.state).content ∷ [])) v w → Does v h seat Leave_call (Refused (fault_in fault w.state.counts.faults)) w h
leave_broken v w h seat x D.Disk b tied sits broke l =
    broken_does (OneOf (v.state.content ∷ (left_state x v.state).content ∷ [])) loses_none v w h h seat Leave_call b broke (λ k y t apart at held. refl) (left_passes v h seat x b tied sits) (λ skips. skips) (same_but h seat) l refl b.ready.given
leave_broken v w h seat x D.Read b tied sits broke l = absurd broke
leave_broken v w h seat x D.Full b tied sits broke l = absurd broke
leave_broken v w h seat x D.NoMemory b tied sits broke l = absurd broke

-- without a session nothing changes
pub leave_nothing : (v : StoreStand) (h : HubState) (seat : ℕ) → HasTurn v h seat → sitting_at h seat ≡ None → Does v h seat Leave_call Settled v h
leave_nothing v h seat b none =
    let f = fitted_now v h seat b in
    made_does v v h h seat Leave_call Settled b (inl b.whole, refl)
    (record { change = λ a. a; content = same_content v.state.content; step = (inl b.whole, inr (session_of f.keeps v.state h seat ∙ ap (option_map (session_over f.keeps.stock)) none, refl)); fits = f.fits; counts = (refl, refl) })
    (leaves_none _ v) (b.ready.settled b.whole) (ap sitting_part none ∙ sym (ap (λ (o : Option Sitting). part_after (sitting_part o) Leave_call Settled) none)) (own_same seat h v b.seat_is)
