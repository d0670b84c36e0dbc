-- Settling and skipping: a session's claim ends, which is a step of the hub's node.
use Rattle.std.proofs.Common.{◌≡◌, ◌≢◌, ℕ, ◌+◌, ◌-◌, ◌<◌, Bool, true, false, if◌then◌else◌, ◌==◌, List, [], ◌∷◌, ◌++◌, Option, Some, None, length, option_map, refl, sym, ◌∙◌, ap, subst, inl, inr, arith}
use Rattle.ftn_addr.specs.Key.{Key}
use Rattle.node_model.specs.declared.store.StoreFault.{StoreFault}
use Rattle.node_model.specs.declared.store.StoreFault.TheVariants as D
use Rattle.node_model.specs.Items.{Done, EntryOf}
use Rattle.node_model.specs.Durable.{DurableOf, with_done, done_entry, all_done}
use Rattle.node_model.specs.Desks.{Claim, part_after}
use Rattle.node_model.specs.Node.{Done_record, with_session}
use Rattle.node_model.specs.Rows.{by}
use Rattle.node_model.specs.SendRows.{GotRow, SkipRow, unclaimed, left_reserved}
use Rattle.node_model.specs.Calls.{Call, Got_call, Skip_call, Settled, Refused, NodeStep, KnownStep, Counts, After_it}
use Rattle.node_model.specs.Stocks.{sizes, on_state}
use Rattle.node_model.specs.StoreWords.{KeyOf}
use Rattle.node_model.specs.Stores.{Shelf, Stored, StoreState, StoreStand, stored_after, settled}
use Rattle.node_model.proofs.StepSound.{step_sound}
use Rattle.node_model.proofs.StockMaps.{with_done-map}
use Rattle.hub_core.specs.Hubs.{Taking, Sitting, Chair, HubState, HubFits, SittingFits, IfClaimed, IfHeld, IsReady, chair_in, with_sitting, sitting_at, session_over, node_with, sitting_part, seat_part, knows_over, claim_places_of}
use Rattle.hub_core.specs.HubCalls.{HasTurn, Does, ShelfPasses}
use Rattle.hub_core.specs.Sending.{unclaimed_sitting, skipped_sitting}
use Rattle.hub_core.specs.Steps.{Leaves, StaysSettled, OneOf, BrokeBy, loses_none, fault_in, given_back}
use Rattle.hub_core.proofs.BeginSteps.{one_passes}
use Rattle.hub_core.proofs.Breaking.{same_but}
use Rattle.hub_core.proofs.Ends.{same_content}
use Rattle.hub_core.proofs.Finding.{member_map}
use Rattle.hub_core.proofs.Going.{behind_done, behind_skipped}
use Rattle.hub_core.proofs.Keeping.{leaves_as, leaves_none}
use Rattle.hub_core.proofs.Marking.{sitting_stays}
use Rattle.hub_core.proofs.Nodes.{seats_put, session_is, sits_at, sittings_put, chair_at}
use Rattle.hub_core.proofs.Ready.{places_reserved}
use Rattle.hub_core.proofs.Sittings.{given_still, sit_twice, sit_back}
use Rattle.hub_core.proofs.Stepping.{Stepped, passes_by}
use Rattle.hub_core.proofs.Owning.{own_sits}
use Rattle.hub_core.proofs.Turning.{fitted_now, turn_ready, made_does, broken_does, before_passes}

clash : {X : Type 0} {n : ℕ} {o : Option ℕ} → o ≡ Some n → o ≡ None → X
clash some none = absurd (cc)

some_same : {A : Type 0} {u v : A} → Some u ≡ Some v → u ≡ v
some_same e = cc

-- The place of a claim is reserved.

pub place_now : (v : StoreStand) (h : HubState) (seat : ℕ) (x : Sitting) (c : Claim) → HasTurn v h seat → sitting_at h seat ≡ Some x → x.claim ≡ Some c → 0 < v.state.reserved
place_now v h seat x c b sits claimed =
    let f = fitted_now v h seat b in
    let few = places_reserved f.keeps v.state h seat x f.fits sits in
    let one : claim_places_of x.claim ≡ 1 = ap claim_places_of claimed in
    omega (arith, few, one)

-- Got.

abbrev pub settled_stored : ℕ → ℕ → ℕ → Stored → Stored
settled_stored number session seat a = stored_after (on_state (with_done number)) seat (Done_record number session ∷ []) a

key_done : {B : Type 0} (m number : ℕ) (key : Key) (queue : List (EntryOf B)) → KeyOf number key queue → KeyOf number key (all_done m queue)
key_done {B} m number key queue k =
    (done_entry m k.0, member_map (done_entry m) queue k.0 k.1, number_stays (k.0.number == m) ∙ k.2, key_stays (k.0.number == m) ∙ k.3)
  where
    number_stays : (b : Bool) → (if b then record k.0 { body = Done } else k.0).number ≡ k.0.number
    number_stays true = refl
    number_stays false = refl

    key_stays : (b : Bool) → (if b then record k.0 { body = Done } else k.0).key ≡ k.0.key
    key_stays true = refl
    key_stays false = refl

claim_done : (m : ℕ) (queue : List (EntryOf ℕ)) (o : Option Claim) → IfClaimed queue o → IfClaimed (all_done m queue) o
claim_done m queue None k = tt
claim_done m queue (Some c) k = key_done m c.number c.key queue k

sitting_done : (number session : ℕ) (s : StoreState) (x : Sitting) → SittingFits s x → SittingFits (settled number session s) x
sitting_done number session s x f =
    record { first = f.first; claim = claim_done number s.stock.state.queue x.claim f.claim; passed = behind_done number (x.first ∷ x.others) x.skipped s.stock.state.queue x.passed f.passed; hold = go x.hold f.hold }
  where
    go : (o : Option Taking) → IfHeld s x.first o → IfHeld (settled number session s) x.first o
    go None held = tt
    go (Some t) held = record { part = held.part; kept = held.kept }

got_node : (a : Stored) (s : StoreState) (h : HubState) (seat : ℕ) (x : Sitting) (c : Claim) → s.seat ≡ seat → x.claim ≡ Some c → node_with (settled_stored c.number x.number s.seat a) (settled c.number x.number s) (with_sitting seat (Some (unclaimed_sitting x)) h) ≡ record (with_session seat (Some (unclaimed (session_over a.stock x))) (node_with a s h)) { state = with_done c.number a.stock.state; log = a.log ++ by seat (Done_record c.number x.number); records = s.records + 1; reserved = s.reserved - claim_places_of x.claim }
got_node a s h seat x c at claimed = λ i. record (node_with a s h) {
  state = with_done c.number a.stock.state;
  log = a.log ++ by (at i) (Done_record c.number x.number);
  seats = seats_put a.stock (settled_stored c.number x.number s.seat a).stock h seat (Some (unclaimed_sitting x)) (Some (unclaimed (session_over a.stock x))) (λ k y apart is. refl) refl i;
  records = s.records + 1;
  reserved = s.reserved - sym (ap claim_places_of claimed) i;
}

got_row : (a : Stored) (s : StoreState) (h : HubState) (seat : ℕ) (x : Sitting) (c : Claim) → s.seat ≡ seat → sitting_at h seat ≡ Some x → x.claim ≡ Some c → GotRow seat c.number (node_with a s h) (node_with (settled_stored c.number x.number s.seat a) (settled c.number x.number s) (with_sitting seat (Some (unclaimed_sitting x)) h))
got_row a s h seat x c at sits claimed =
    record { session = session_over a.stock x; has = session_is a s h seat x sits; claimed = ap (option_map (λ (c : Claim). c.number)) claimed; after = got_node a s h seat x c at claimed }

got_stepped : (a : Stored) (s : StoreState) (h : HubState) (seat : ℕ) (x : Sitting) (c : Claim) → HubFits a s h → s.seat ≡ seat → sitting_at h seat ≡ Some x → x.claim ≡ Some c → s.counts.broken ≡ None → Stepped seat (Got_call c.number) Settled s h a (settled c.number x.number s) (with_sitting seat (Some (unclaimed_sitting x)) h)
got_stepped a s h seat x c f at sits claimed whole =
    let t = settled c.number x.number s in
    let y = unclaimed_sitting x in
    let b = settled_stored c.number x.number s.seat a in
    let g = with_sitting seat (Some y) h in
    let step : NodeStep seat (node_with a s h) (Got_call c.number) Settled (node_with b t g) = (inl whole, got_row a s h seat x c at sits claimed) in
    let chair : Chair = record (chair_in h.chairs seat) { sitting = Some y } in
    let mine = sitting_done c.number x.number s x (f.sittings seat x sits) in
    record {
      change = settled_stored c.number x.number s.seat;
      content = refl;
      step = step;
      fits = record {
        stock = ap (on_state (with_done c.number)) f.stock ∙ ap (λ (d : DurableOf ℕ). record (sizes a.stock) { state = d }) (sym (with_done-map length c.number a.stock.state));
        sittings = sittings_put (λ (w : Sitting). SittingFits t w) h seat (Some y)
            (λ k w apart is. sitting_done c.number x.number s w (f.sittings k w is))
            (λ w is. subst (λ (q : Sitting). SittingFits t q) (some_same is) (record { first = mine.first; claim = tt; passed = mine.passed; hold = mine.hold }));
        parts = λ p there. let q = f.parts p there in record { marks = q.marks; receipts = q.receipts };
        sound = step_sound seat (node_with a s h) (Got_call c.number) Settled (node_with b t g) step (λ unbroken. f.sound) whole;
      };
      counts = (ap (λ (w : Chair). w.busy) (chair_at seat chair h.chairs), ap (λ (w : Chair). w.reads) (chair_at seat chair h.chairs));
    }

got_passes : (v : StoreStand) (h : HubState) (seat : ℕ) (x : Sitting) (c : Claim) → HasTurn v h seat → sitting_at h seat ≡ Some x → x.claim ≡ Some c → (d : Shelf) → OneOf (v.state.content ∷ (settled c.number x.number v.state).content ∷ []) d → ShelfPasses v.state.content v.state h seat (Got_call c.number) d
got_passes v h seat x c b sits claimed d (inl is) = before_passes v.state.content v.state h seat (Got_call c.number) d is
got_passes v h seat x c b sits claimed d (inr (inl is)) =
    let f = fitted_now v h seat b in
    passes_by v.state.content (settled_stored c.number x.number v.state.seat) v.state h seat (Got_call c.number) f.keeps d f.tells
    (After_it b.whole Settled (node_with (settled_stored c.number x.number v.state.seat f.keeps) (settled c.number x.number v.state) (with_sitting seat (Some (unclaimed_sitting x)) h)) (got_row f.keeps v.state h seat x c b.seat_is sits claimed) refl) is
got_passes v h seat x c b sits claimed d (inr (inr none)) = absurd none

-- the part without its claim
part_ends : (h : HubState) (seat : ℕ) (x y : Sitting) (call : Call) → sitting_at h seat ≡ Some x → part_after (sitting_part (Some x)) call Settled ≡ sitting_part (Some y) → seat_part (with_sitting seat (Some y) h) seat ≡ part_after (seat_part h seat) call Settled
part_ends h seat x y call sits is =
    ap sitting_part (sits_at h seat (Some y)) ∙ (sym is ∙ ap (λ (p : Option Sitting). part_after (sitting_part p) call Settled) (sym sits))

pub got_does : (v w : StoreStand) (h k : HubState) (seat : ℕ) (x y : Sitting) (c : Claim) → HasTurn v h seat → sitting_at h seat ≡ Some x → x.claim ≡ Some c → k ≡ with_sitting seat (Some y) (with_sitting seat None h) → y ≡ unclaimed_sitting x → w.state ≡ settled c.number x.number v.state → Leaves (OneOf (v.state.content ∷ (settled c.number x.number v.state).content ∷ [])) v w → StaysSettled v w → Does v h seat (Got_call c.number) Settled w k
got_does v w h k seat x y c b sits claimed put is after l settles =
    let f = fitted_now v h seat b in
    let z = unclaimed_sitting x in
    let g = with_sitting seat (Some z) h in
    let counts : w.state.counts ≡ v.state.counts = ap (λ (t : StoreState). t.counts) after in
    subst (Does v h seat (Got_call c.number) Settled w) (sym (put ∙ (sit_twice h seat (Some y) None ∙ ap (λ (q : Sitting). with_sitting seat (Some q) h) is)))
    (made_does v w h g seat (Got_call c.number) Settled b (inl b.whole, counts)
    (subst (λ (t : StoreState). Stepped seat (Got_call c.number) Settled v.state h f.keeps t g) (sym after) (got_stepped f.keeps v.state h seat x c f.fits b.seat_is sits claimed b.whole))
    (leaves_as _ _ v w (got_passes v h seat x c b sits claimed) l)
    (settles (b.ready.settled b.whole) (ap (λ (c : Counts). c.broken) counts ∙ b.whole))
    (part_ends h seat x z (Got_call c.number) sits refl)
    (own_sits seat (Some z) h w b.ready.given (ap (λ (t : StoreState). t.seat) after ∙ b.seat_is)))

pub got_refused : (v w : StoreStand) (h k : HubState) (seat : ℕ) (x y : Sitting) (c : Claim) (fault : StoreFault) → HasTurn v h seat → sitting_at h seat ≡ Some x → x.claim ≡ Some c → k ≡ with_sitting seat (Some y) (with_sitting seat None h) → y ≡ x → BrokeBy (OneOf (v.state.content ∷ (settled c.number x.number v.state).content ∷ [])) loses_none fault v.state w.state → Leaves (OneOf (v.state.content ∷ (settled c.number x.number v.state).content ∷ [])) v w → Does v h seat (Got_call c.number) (Refused (fault_in fault w.state.counts.faults)) w k
got_refused v w h k seat x y c D.Disk b sits claimed put is broke l =
    subst (Does v h seat (Got_call c.number) (Refused (fault_in D.Disk w.state.counts.faults)) w) (sym (put ∙ sit_back h seat (Some y) b.ready.given (ap Some is ∙ sym sits)))
    (broken_does (OneOf (v.state.content ∷ (settled c.number x.number v.state).content ∷ [])) loses_none v w h h seat (Got_call c.number) b broke (λ k y t apart at held. refl) (got_passes v h seat x c b sits claimed) (λ skips. skips) (same_but h seat) l refl b.ready.given)
got_refused v w h k seat x y c D.Read b sits claimed put is broke l = absurd broke
got_refused v w h k seat x y c D.Full b sits claimed put is broke l = absurd broke
got_refused v w h k seat x y c D.NoMemory b sits claimed put is broke l = absurd broke

-- Skip.

skip_node : (a : Stored) (s : StoreState) (h : HubState) (seat : ℕ) (x : Sitting) (c : Claim) → x.claim ≡ Some c → s.counts.broken ≡ None → node_with a (given_back 1 s) (with_sitting seat (Some (skipped_sitting c.number x)) h) ≡ record (with_session seat (Some (record (unclaimed (session_over a.stock x)) { skipped = c.number ∷ x.skipped })) (node_with a s h)) { reserved = left_reserved s.counts.broken (claim_places_of x.claim) s.reserved }
skip_node a s h seat x c claimed whole = λ i. record (node_with a s h) {
  seats = seats_put a.stock a.stock h seat (Some (skipped_sitting c.number x)) (Some (record (unclaimed (session_over a.stock x)) { skipped = c.number ∷ x.skipped })) (λ k y apart is. refl) refl i;
  reserved = left_reserved (sym whole i) (sym (ap claim_places_of claimed) i) s.reserved;
}

skip_stepped : (a : Stored) (s : StoreState) (h : HubState) (seat : ℕ) (x : Sitting) (c : Claim) → HubFits a s h → sitting_at h seat ≡ Some x → x.claim ≡ Some c → s.counts.broken ≡ None → Stepped seat (Skip_call c.number) Settled s h a (given_back 1 s) (with_sitting seat (Some (skipped_sitting c.number x)) h)
skip_stepped a s h seat x c f sits claimed whole =
    let t = given_back 1 s in
    let y = skipped_sitting c.number x in
    let g = with_sitting seat (Some y) h in
    let row : SkipRow seat c.number (node_with a s h) (node_with a t g) = record { session = session_over a.stock x; has = session_is a s h seat x sits; claimed = ap (option_map (λ (c : Claim). c.number)) claimed; after = skip_node a s h seat x c claimed whole } in
    let step : NodeStep seat (node_with a s h) (Skip_call c.number) Settled (node_with a t g) = (inl whole, row) in
    let chair : Chair = record (chair_in h.chairs seat) { sitting = Some y } in
    let mine = sitting_stays s t x refl refl (f.sittings seat x sits) in
    record {
      change = λ b. b;
      content = same_content s.content;
      step = step;
      fits = record {
        stock = f.stock;
        sittings = sittings_put (λ (w : Sitting). SittingFits t w) h seat (Some y)
            (λ k w apart is. sitting_stays s t w refl refl (f.sittings k w is))
            (λ w is. subst (λ (q : Sitting). SittingFits t q) (some_same is) (record { first = mine.first; claim = tt; passed = behind_skipped c.number (x.first ∷ x.others) x.skipped s.stock.state.queue x.passed mine.passed; hold = mine.hold }));
        parts = f.parts;
        sound = step_sound seat (node_with a s h) (Skip_call c.number) Settled (node_with a t g) step (λ unbroken. f.sound) whole;
      };
      counts = (ap (λ (w : Chair). w.busy) (chair_at seat chair h.chairs), ap (λ (w : Chair). w.reads) (chair_at seat chair h.chairs));
    }

pub skip_does : (v w : StoreStand) (h k : HubState) (seat : ℕ) (x y : Sitting) (c : Claim) → HasTurn v h seat → sitting_at h seat ≡ Some x → x.claim ≡ Some c → k ≡ with_sitting seat (Some y) (with_sitting seat None h) → y ≡ skipped_sitting c.number x → w.state ≡ given_back 1 v.state → Leaves (OneOf (v.state.content ∷ [])) v w → StaysSettled v w → Does v h seat (Skip_call c.number) Settled w k
skip_does v w h k seat x y c b sits claimed put is after l settles =
    let f = fitted_now v h seat b in
    let z = skipped_sitting c.number x in
    let g = with_sitting seat (Some z) h in
    let counts : w.state.counts ≡ v.state.counts = ap (λ (t : StoreState). t.counts) after in
    subst (Does v h seat (Skip_call c.number) Settled w) (sym (put ∙ (sit_twice h seat (Some y) None ∙ ap (λ (q : Sitting). with_sitting seat (Some q) h) is)))
    (made_does v w h g seat (Skip_call c.number) Settled b (inl b.whole, counts)
    (subst (λ (t : StoreState). Stepped seat (Skip_call c.number) Settled v.state h f.keeps t g) (sym after) (skip_stepped f.keeps v.state h seat x c f.fits sits claimed b.whole))
    (leaves_as _ _ v w (one_passes v h seat (Skip_call c.number)) l)
    (settles (b.ready.settled b.whole) (ap (λ (c : Counts). c.broken) counts ∙ b.whole))
    (part_ends h seat x z (Skip_call c.number) sits refl)
    (own_sits seat (Some z) h w b.ready.given (ap (λ (t : StoreState). t.seat) after ∙ b.seat_is)))

-- the number of a session that is open
pub number_now : (v : StoreStand) (h : HubState) (seat : ℕ) (x : Sitting) → HasTurn v h seat → sitting_at h seat ≡ Some x → x.number ≢ 0
number_now v h seat x b sits zero =
    let f = fitted_now v h seat b in
    let some = (f.fits.sound.sessions.numbers seat (session_over f.keeps.stock x) (session_is f.keeps v.state h seat x sits)).0 in
    omega (arith, some, zero)

-- Over a broken store a skip does its work in the hub alone.

skip_broken_node : (a : Stored) (s : StoreState) (h : HubState) (seat : ℕ) (x : Sitting) (number count : ℕ) → s.counts.broken ≡ Some count → node_with a s (with_sitting seat (Some (skipped_sitting number x)) h) ≡ record (with_session seat (Some (record (unclaimed (session_over a.stock x)) { skipped = number ∷ x.skipped })) (node_with a s h)) { reserved = left_reserved s.counts.broken (claim_places_of x.claim) s.reserved }
skip_broken_node a s h seat x number count broken = λ i. record (node_with a s h) {
  seats = seats_put a.stock a.stock h seat (Some (skipped_sitting number x)) (Some (record (unclaimed (session_over a.stock x)) { skipped = number ∷ x.skipped })) (λ k y apart is. refl) refl i;
  reserved = sym (ap (λ (o : Option ℕ). left_reserved o (claim_places_of x.claim) s.reserved) broken) i;
}

pub skip_broken : (v : StoreStand) (h k : HubState) (seat : ℕ) (x y : Sitting) (c : Claim) (count : ℕ) → v.state.counts.broken ≡ Some count → v.state.seat ≡ seat → seat < length h.chairs → sitting_at h seat ≡ Some x → x.claim ≡ Some c → k ≡ with_sitting seat (Some y) (with_sitting seat None h) → y ≡ skipped_sitting c.number x → Does v h seat (Skip_call c.number) Settled v k
skip_broken v h k seat x y c count broken turn given sits claimed put is =
    subst (Does v h seat (Skip_call c.number) Settled v) (sym (put ∙ (sit_twice h seat (Some y) None ∙ ap (λ (q : Sitting). with_sitting seat (Some q) h) is)))
    (record {
      caused = (inr tt, refl);
      step = go v.state.content;
      leaves = leaves_none _ v;
      settled = λ settles whole. clash broken whole;
      part = part_ends h seat x z (Skip_call c.number) sits refl;
      ready = record { given = given_still h seat (Some z) given; fitted = λ whole. clash broken whole; settled = λ whole. clash broken whole };
      own = own_sits seat (Some z) h v given turn;
    })
  where
    z : Sitting
    z = skipped_sitting c.number x

    g : HubState
    g = with_sitting seat (Some z) h

    chair : Chair
    chair = record (chair_in h.chairs seat) { sitting = Some z }

    go : (o : Option Stored) → KnownStep seat (knows_over o v.state h seat) (Skip_call c.number) Settled (knows_over o v.state g seat)
    go None = (ap (λ (w : Chair). w.busy) (chair_at seat chair h.chairs), ap (λ (w : Chair). w.reads) (chair_at seat chair h.chairs))
    go (Some a) =
        (inr tt, record { session = session_over a.stock x; has = session_is a v.state h seat x sits; claimed = ap (option_map (λ (c : Claim). c.number)) claimed; after = skip_broken_node a v.state h seat x c.number count broken })

-- the desk is ready behind its turn, whether the store is broken or not
pub turn_kept : (u v : StoreStand) (h : HubState) (seat : ℕ) → IsReady u h seat → v.state ≡ record u.state { seat = seat } → StaysSettled u v → IsReady v h seat
turn_kept u v h seat ready turn settled = record {
  given = ready.given;
  fitted = λ whole. (turn_ready u v h seat ready turn settled whole).ready.fitted whole;
  settled = λ whole. (turn_ready u v h seat ready turn settled whole).ready.settled whole;
}
