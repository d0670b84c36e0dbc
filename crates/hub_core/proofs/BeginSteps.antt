-- A session begins, or finds no number or no memory: a step of the hub's node.
use Rattle.std.proofs.Common.{◌≡◌, ℕ, ◌+◌, ◌<◌, Bool, true, false, List, [], ◌∷◌, Option, Some, None, option_map, refl, sym, ◌∙◌, ap, subst, inl, inr, arith}
use Rattle.std.specs.List.{All}
use Rattle.std.proofs.lemmas.List.Elements.{All-head}
use Rattle.ftn_addr.specs.Address.{Address}
use Rattle.ftn_addr.specs.Counts.{Increased, next_count}
use Rattle.ftn_addr.specs.Limits.{IsAddress}
use Rattle.ftn_addr.specs.declared.limits.TheConstants.{MAX_NUMBER}
use Rattle.node_model.specs.declared.words.Role.{Role}
use Rattle.node_model.specs.declared.store.StoreFault.{StoreFault}
use Rattle.node_model.specs.declared.store.StoreFault.TheVariants as D
use Rattle.node_model.specs.Node.{Node, Session, Seat, seat_in, put_seat, session_at}
use Rattle.node_model.specs.Rows.{new_session}
use Rattle.node_model.specs.Calls.{Call, Open_call, Begun, Refused, Full, No_memory, NodeStep, Counts, MayFindFull, Caused}
use Rattle.node_model.specs.Stores.{Shelf, Stored, StoreState, StoreStand}
use Rattle.node_model.proofs.StepSound.{step_sound}
use Rattle.hub_core.specs.Hubs.{Sitting, Chair, HubState, HubFits, SittingFits, IfClaimed, IfHeld, Taking, IsNewSitting, chair_in, begun_with, sitting_at, session_over, node_with, sitting_part, seat_part}
use Rattle.hub_core.specs.HubCalls.{HasTurn, Does, ShelfPasses}
use Rattle.hub_core.specs.HubLaws.{session_of}
use Rattle.hub_core.specs.Skips.{AllBehind}
use Rattle.hub_core.specs.Steps.{Leaves, StaysSettled, OneOf, RefusedBy, counted_full, loses_none, fault_in}
use Rattle.hub_core.proofs.Nodes.{seats_put, chair_at, sits_at, sittings_put}
use Rattle.hub_core.proofs.Keeping.{leaves_as, leaves_none}
use Rattle.hub_core.proofs.Ends.{same_content}
use Rattle.hub_core.proofs.Stepping.{Stepped}
use Rattle.hub_core.proofs.Breaking.{same_but}
use Rattle.hub_core.proofs.Owning.{own_same, own_chair}
use Rattle.hub_core.proofs.Turning.{fitted_now, made_does, broken_does, before_passes}

some_same : {A : Type 0} {u v : A} → Some u ≡ Some v → u ≡ v
some_same e = cc

-- no session is open
pub none_open : (o : Option Sitting) → (sitting_part o).open_now ≡ false → o ≡ None
none_open None e = refl
none_open (Some x) e = absurd (let clash : true ≡ false = e in cc)

pub begin_does : (v : StoreStand) (h : HubState) (seat : ℕ) (role : Role) (peers : List Address) (secure : Bool) (moment : ℕ) (x : Sitting) → HasTurn v h seat → (seat_part h seat).open_now ≡ false → All IsAddress peers → h.begun < MAX_NUMBER → IsNewSitting (h.begun + 1) role peers secure moment x → Does v h seat (Open_call role peers secure moment) (Begun (h.begun + 1)) v (begun_with seat x h)
begin_does v h seat role peers secure moment x b closed limits few new =
    let f = fitted_now v h seat b in
    let fits = f.fits in
    let none = none_open (sitting_at h seat) closed in
    let number : x.number ≡ h.begun + 1 = ap (λ (y : Sitting). y.number) new.is in
    let n = node_with f.keeps v.state h in
    let session : option_map (session_over f.keeps.stock) (Some x) ≡ Some (new_session (h.begun + 1) role x.first x.others secure moment) = ap (λ (y : Sitting). Some (session_over f.keeps.stock y)) new.is in
    let after : node_with f.keeps v.state (begun_with seat x h) ≡ record (Rattle.node_model.specs.Node.with_session seat (Some (new_session (h.begun + 1) role x.first x.others secure moment)) n) { begun = h.begun + 1 } =
    (λ i. record n { seats = seats_put f.keeps.stock f.keeps.stock h seat (Some x) (Some (new_session (h.begun + 1) role x.first x.others secure moment)) (λ k y apart at. refl) session i; begun = number i }) in
    let step : NodeStep seat n (Open_call role peers secure moment) (Begun (h.begun + 1)) (node_with f.keeps v.state (begun_with seat x h)) =
    (inl b.whole, (refl, record { first = x.first; others = x.others; has_first = sym new.peers_are; none_yet = session_of f.keeps v.state h seat ∙ ap (option_map (session_over f.keeps.stock)) none; few = few; after = after })) in
    let c : Chair = record (chair_in h.chairs seat) { sitting = Some x } in
    made_does v v h (begun_with seat x h) seat (Open_call role peers secure moment) (Begun (h.begun + 1)) b (inl b.whole, refl)
    (record {
      change = λ a. a;
      content = same_content v.state.content;
      step = step;
      fits = record {
        stock = fits.stock;
        sittings = sittings_put (λ (y : Sitting). SittingFits v.state y) h seat (Some x) (λ k y apart at. fits.sittings k y at)
            (λ y is. subst (λ (z : Sitting). SittingFits v.state z) (some_same is) (record { first = All-head IsAddress x.first x.others (subst (All IsAddress) (sym new.peers_are) limits); claim = subst (IfClaimed v.state.stock.state.queue) (sym (ap (λ (y : Sitting). y.claim) new.is)) tt; passed = subst (AllBehind (x.first ∷ x.others) x.skipped v.state.stock.state.queue) (sym (ap (λ (y : Sitting). y.passed) new.is)) (λ e free. tt); hold = subst (λ (o : Option Taking). IfHeld v.state x.first o) (sym (ap (λ (y : Sitting). y.hold) new.is)) tt }));
        parts = fits.parts;
        sound = step_sound seat n (Open_call role peers secure moment) (Begun (h.begun + 1)) (node_with f.keeps v.state (begun_with seat x h)) step (λ unbroken. fits.sound) b.whole;
      };
      counts = (ap (λ (y : Chair). y.busy) (chair_at seat c h.chairs), ap (λ (y : Chair). y.reads) (chair_at seat c h.chairs));
    })
    (leaves_none _ v) (b.ready.settled b.whole)
    (ap sitting_part (sits_at h seat (Some x)) ∙ (ap (λ (y : Sitting). sitting_part (Some y)) new.is ∙ sym (ap (λ (o : Option Sitting). record { open_now = true; claim = (sitting_part o).claim; held = (sitting_part o).held }) none)))
    (own_chair seat c h v x.number b.ready.given b.seat_is)

-- no memory
pub begin_no_memory : (v : StoreStand) (h : HubState) (seat : ℕ) (role : Role) (peers : List Address) (secure : Bool) (moment : ℕ) → HasTurn v h seat → Does v h seat (Open_call role peers secure moment) (Refused No_memory) v h
begin_no_memory v h seat role peers secure moment b =
    let f = fitted_now v h seat b in
    made_does v v h h seat (Open_call role peers secure moment) (Refused No_memory) b (tt, b.whole, refl)
    (record { change = λ a. a; content = same_content v.state.content; step = (b.whole, tt, refl); fits = f.fits; counts = (refl, refl) })
    (leaves_none _ v) (b.ready.settled b.whole) refl (own_same seat h v b.seat_is)

-- the hub fits a store whose counts of refusals are others
pub full_fits : (a : Stored) (s : StoreState) (h : HubState) → HubFits a s h → HubFits a (counted_full s) h
full_fits a s h f = record {
  stock = f.stock;
  sittings = λ k x at. let y = f.sittings k x at in record { first = y.first; claim = y.claim; passed = y.passed; hold = go x.first x.hold y.hold };
  parts = f.parts;
  sound = record { queue = f.sound.queue; inbox = f.sound.inbox; sessions = record { numbers = f.sound.sessions.numbers; apart = f.sound.sessions.apart }; claims = record { each = f.sound.claims.each; apart = f.sound.claims.apart }; holds = record { each = λ k z w at is. let o = f.sound.holds.each k z w at is in record { from_first = o.from_first; new = o.new; wanted = o.wanted; stored = o.stored; begins = o.begins; fits = o.fits }; apart = f.sound.holds.apart }; parts = record { marks = f.sound.parts.marks; receipts = f.sound.parts.receipts; apart = f.sound.parts.apart; held_mark = f.sound.parts.held_mark; held_receipt = f.sound.parts.held_receipt; held_apart = f.sound.parts.held_apart; marks_drawn = f.sound.parts.marks_drawn; receipts_drawn = f.sound.parts.receipts_drawn; holds_drawn = f.sound.parts.holds_drawn; queue_staged = f.sound.parts.queue_staged; drawn_few = f.sound.parts.drawn_few }; places = record { claims = f.sound.places.claims; holds = f.sound.places.holds; all = f.sound.places.all; room = f.sound.places.room } };
}
  where
    go : (from : Address) (o : Option Taking) → IfHeld s from o → IfHeld (counted_full s) from o
    go from None held = tt
    go from (Some w) held = record { part = held.part; kept = held.kept }

pub rose_full : (n : ℕ) → Increased n (next_count n)
rose_full n = omega arith

pub one_passes : (v : StoreStand) (h : HubState) (seat : ℕ) (call : Call) (d : Shelf) → OneOf (v.state.content ∷ []) d → ShelfPasses v.state.content v.state h seat call d
one_passes v h seat call d (inl is) = before_passes v.state.content v.state h seat call d is
one_passes v h seat call d (inr none) = absurd none

pub full_caused : (s t : StoreState) (call : Call) → MayFindFull call → s.counts.broken ≡ None → t ≡ counted_full s → Caused s.counts call (Refused Full) t.counts
full_caused s t call may whole is =
    let fulls : t.counts.fulls ≡ next_count s.counts.fulls = ap (λ (x : StoreState). x.counts.fulls) is in
    let same : t.counts ≡ record s.counts { fulls = t.counts.fulls } = ap (λ (x : StoreState). x.counts) is ∙ ap (λ (n : ℕ). record s.counts { fulls = n }) (sym fulls) in
    (may, whole, rose_by s.counts.fulls t.counts.fulls fulls, same)
  where
    rose_by : (m n : ℕ) → n ≡ next_count m → Increased m n
    rose_by m n e = subst (λ (k : ℕ). Increased m k) (sym e) (rose_full m)

-- the store counted that no number is left, or refused otherwise
pub begin_refused : (v w : StoreStand) (h : HubState) (seat : ℕ) (role : Role) (peers : List Address) (secure : Bool) (moment : ℕ) (fault : StoreFault) → HasTurn v h seat → h.begun ≡ MAX_NUMBER → RefusedBy (OneOf (v.state.content ∷ [])) loses_none (Unit {0}) fault v.state w.state → Leaves (OneOf (v.state.content ∷ [])) v w → StaysSettled v w → Does v h seat (Open_call role peers secure moment) (Refused (fault_in fault w.state.counts.faults)) w h
begin_refused v w h seat role peers secure moment D.Disk b last r l settled =
    broken_does (OneOf (v.state.content ∷ [])) loses_none v w h h seat (Open_call role peers secure moment) b r (λ k y t apart at held. refl) (one_passes v h seat (Open_call role peers secure moment)) (λ skips. skips) (same_but h seat) l refl b.ready.given
begin_refused v w h seat role peers secure moment D.Read b last r l settled = absurd r
begin_refused v w h seat role peers secure moment D.Full b last r l settled =
    let f = fitted_now v h seat b in
    let counts : w.state.counts ≡ (counted_full v.state).counts = ap (λ (t : StoreState). t.counts) r.1 in
    let step : Stepped seat (Open_call role peers secure moment) (Refused Full) v.state h f.keeps (counted_full v.state) h = record { change = λ a. a; content = same_content v.state.content; step = (b.whole, last, refl); fits = full_fits f.keeps v.state h f.fits; counts = (refl, refl) } in
    made_does v w h h seat (Open_call role peers secure moment) (Refused Full) b (full_caused v.state w.state (Open_call role peers secure moment) tt b.whole r.1)
    (subst (λ (t : StoreState). Stepped seat (Open_call role peers secure moment) (Refused Full) v.state h f.keeps t h) (sym r.1) step)
    (leaves_as _ _ v w (one_passes v h seat (Open_call role peers secure moment)) l) (settled (b.ready.settled b.whole) (ap (λ (c : Counts). c.broken) counts ∙ b.whole)) refl (own_same seat h w (ap (λ (t : StoreState). t.seat) r.1 ∙ b.seat_is))
begin_refused v w h seat role peers secure moment D.NoMemory b last r l settled =
    let f = fitted_now v h seat b in
    let step : Stepped seat (Open_call role peers secure moment) (Refused No_memory) v.state h f.keeps v.state h = record { change = λ a. a; content = same_content v.state.content; step = (b.whole, tt, refl); fits = f.fits; counts = (refl, refl) } in
    made_does v w h h seat (Open_call role peers secure moment) (Refused No_memory) b (tt, b.whole, ap (λ (t : StoreState). t.counts) r)
    (subst (λ (t : StoreState). Stepped seat (Open_call role peers secure moment) (Refused No_memory) v.state h f.keeps t h) (sym r) step)
    (leaves_as _ _ v w (one_passes v h seat (Open_call role peers secure moment)) l) (settled (b.ready.settled b.whole) (ap (λ (t : StoreState). t.counts.broken) r ∙ b.whole)) refl (own_same seat h w (ap (λ (t : StoreState). t.seat) r ∙ b.seat_is))
