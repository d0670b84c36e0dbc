-- Offering: the next entry is claimed, which is a step of the hub's node, or there is none.
use Rattle.std.proofs.Common.{◌≡◌, ℕ, ◌+◌, ◌<◌, false, List, [], ◌∷◌, map, length, Option, Some, None, option_map, refl, sym, ◌∙◌, ap, subst, inl, Ok}
use Rattle.ftn_addr.specs.Key.{Key, key_of}
use Rattle.ftn_addr.specs.Limits.{IsKey}
use Rattle.node_model.specs.declared.desk.Offer.{Offer}
use Rattle.node_model.specs.declared.desk.Offer.TheVariants as O
use Rattle.node_model.specs.declared.store.StoreFault.{StoreFault}
use Rattle.node_model.specs.declared.words.Flavour.{Flavour}
use Rattle.node_model.specs.declared.store.StoreFault.TheVariants as D
use Rattle.node_model.specs.Items.{MarkOf, Entry}
use Rattle.node_model.specs.Desks.{Claim, part_after, offer_answer}
use Rattle.node_model.specs.Node.{put_seat, seat_in, with_session}
use Rattle.node_model.specs.SendRows.{OfferNothing, OfferFull}
use Rattle.node_model.specs.Calls.{Offer_call, Offered, Nothing, Refused, Full, No_memory, NodeStep, Counts, Logs}
use Rattle.node_model.specs.Sound.{Sound}
use Rattle.node_model.specs.Stocks.{part_in}
use Rattle.node_model.specs.Stores.{Shelf, Stored, StoreState, StoreStand, StoreCall, Reserve, StoreAnswer, Staged_as, Copied_as, Slots, Part_opened, Came, Gave_so, Acted_on, Well, Refuses, StoreDoes, StoreMade, StorePasses, Before_it, Source_first, After_it, BreaksStore, PartsStay, MayLose, TellsOn, IsShelf, shelf_of}
use Rattle.node_model.proofs.StepSound.{step_sound}
use Rattle.hub_core.specs.Hubs.{Sitting, Chair, HubState, HubFits, SittingFits, chair_in, with_sitting, sitting_at, session_over, seat_over, node_with, sitting_part, seat_part}
use Rattle.hub_core.specs.HubCalls.{HasTurn, Does}
use Rattle.hub_core.specs.Sending.{OffersFile, OffersNothing, Offers, OffersFull, claimed_sitting, passed_sitting}
use Rattle.hub_core.specs.Steps.{Leaves, StaysSettled, OneOf, RefusedBy, Broke, Stays, LacksOne, loses_none, fault_in, counted_full, reserved_more}
use Rattle.hub_core.proofs.BeginSteps.{full_fits, full_caused, one_passes}
use Rattle.hub_core.proofs.Breaking.{same_but}
use Rattle.hub_core.proofs.Candidates.{next_told, none_told, next_keyed}
use Rattle.hub_core.proofs.Ends.{same_content}
use Rattle.hub_core.proofs.Keeping.{leaves_as}
use Rattle.hub_core.proofs.Marking.{sitting_stays}
use Rattle.hub_core.proofs.Nodes.{seats_put, session_is, sits_at, sittings_put, chair_at}
use Rattle.hub_core.proofs.Sittings.{sit_twice, sit_same, sit_back}
use Rattle.hub_core.proofs.Stepping.{Stepped}
use Rattle.hub_core.proofs.Owning.{own_same, own_sits}
use Rattle.hub_core.proofs.Turning.{fitted_now, made_does, broken_does}

some_same : {A : Type 0} {u v : A} → Some u ≡ Some v → u ≡ v
some_same e = cc

-- The store's refusals.

-- the disk failed in a call that loses no part
pub breaks_to : (call : StoreCall) (P : Shelf → Type 0) (s t : StoreState) → ((p : MarkOf ℕ) → MayLose call p ≡ false) → ((d : Shelf) → StorePasses s call d → P d) → BreaksStore call s t → Broke P loses_none s t
breaks_to call P s t keeps f b = record { rose = b.rose; counts = b.counts; content = go s.content t.content b.content; seat = b.seat }
  where
    go : (c e : Option Stored) → TellsOn (λ x y. StorePasses s call (shelf_of y) × Logs s.seat x.log y.log × PartsStay call s.stock x.stock y.stock) c e → TellsOn (λ x y. P (shelf_of y) × Logs s.seat x.log y.log × ((p : MarkOf ℕ) → Stays loses_none s p → part_in p.number y.stock.parts ≡ part_in p.number x.stock.parts)) c e
    go None None on = tt
    go None (Some y) on = absurd on
    go (Some x) None on = absurd on
    go (Some x) (Some y) on = (f (shelf_of y) on.0, on.1, λ p stays. on.2 p stays.0 (keeps p))

reserved_content : (s new : StoreState) (n : ℕ) (answer : StoreAnswer) → StoreDoes s (Reserve n) answer new → new.content ≡ s.content
reserved_content s new n Well does = ap (λ (t : StoreState). t.content) does.1
reserved_content s new n (Staged_as number) does = absurd does
reserved_content s new n (Slots slots) does = absurd does
reserved_content s new n (Part_opened number len) does = absurd does
reserved_content s new n (Came bytes) does = absurd does
reserved_content s new n (Copied_as staged) does = absurd does
reserved_content s new n (Gave_so gave) does = absurd does
reserved_content s new n (Acted_on number) does = absurd does
reserved_content s new n (Refuses fault) does = absurd does

reserve_passes : (s : StoreState) (n : ℕ) (d : Shelf) → StorePasses s (Reserve n) d → OneOf (s.content ∷ []) d
reserve_passes s n d (Before_it is) = inl is
reserve_passes s n d (Source_first first) = absurd first
reserve_passes s n d (After_it answer new does is) =
    inl (subst (λ (c : Option Stored). IsShelf c d) (reserved_content s new n answer does) is)

-- no place was reserved
pub reserve_refused : (cause : Type 0) (fault : StoreFault) (s t : StoreState) → (LacksOne s → cause) → StoreMade s (Reserve 1) (Refuses fault) t → RefusedBy (OneOf (s.content ∷ [])) loses_none cause fault s t
reserve_refused cause D.Disk s t why made =
    breaks_to (Reserve 1) (OneOf (s.content ∷ [])) s t (λ p. refl) (reserve_passes s 1) made
reserve_refused cause D.Read s t why made = absurd made.0
reserve_refused cause D.Full s t why made = (why made.0, made.1)
reserve_refused cause D.NoMemory s t why made = made.1

-- The step.

offered_node : (a : Stored) (s : StoreState) (h : HubState) (seat : ℕ) (x : Sitting) (at : Option (Flavour × ℕ)) (number : ℕ) (key : Key) (e : Entry) → e.number ≡ number → node_with a (reserved_more 1 s) (with_sitting seat (Some (claimed_sitting number key (passed_sitting at x))) h) ≡ record (with_session seat (Some (record (session_over a.stock x) { claim = Some e.number; claim_places = 1 })) (node_with a s h)) { reserved = s.reserved + 1 }
offered_node a s h seat x at number key e numbered = λ i. record (node_with a s h) {
  seats = seats_put a.stock a.stock h seat (Some (claimed_sitting number key (passed_sitting at x))) (Some (record (session_over a.stock x) { claim = Some e.number; claim_places = 1 })) (λ k y apart is. refl) (λ j. Some (record (session_over a.stock x) { claim = Some (sym numbered j); claim_places = 1 })) i;
  reserved = s.reserved + 1;
}

offered_stepped : (a : Stored) (s : StoreState) (h : HubState) (seat : ℕ) (x : Sitting) (number : ℕ) (key : Key) (t : StoreState) (y : Sitting) → HubFits a s h → sitting_at h seat ≡ Some x → x.claim ≡ None → s.counts.broken ≡ None → (o : OffersFile (with_sitting seat None h).chairs x number key s t y) → Stepped seat Offer_call (Offered number key) s h a (reserved_more 1 s) (with_sitting seat (Some (claimed_sitting number key (passed_sitting o.passed x))) h)
offered_stepped a s h seat x number key t y f sits unclaimed whole o =
    let told = next_told a s h seat x (o.flavour, number) f sits unclaimed o.first in
    let e = told.entry in
    let z = claimed_sitting number key (passed_sitting o.passed x) in
    let m = node_with a (reserved_more 1 s) (with_sitting seat (Some z) h) in
    let keyed = next_keyed a s h e number key f told.candidate.queued told.numbered o.keyed in
    let free : (session_over a.stock x).claim ≡ None = ap (option_map (λ (c : Claim). c.number)) unclaimed in
    let step : NodeStep seat (node_with a s h) Offer_call (Offered number key) m =
    (inl whole, (e, told.numbered, keyed, record { session = session_over a.stock x; has = session_is a s h seat x sits; free = free; candidate = told.candidate; least = told.least; room = o.room; after = offered_node a s h seat x o.passed number key e told.numbered })) in
    let c : Chair = record (chair_in h.chairs seat) { sitting = Some z } in
    let mine = sitting_stays s (reserved_more 1 s) x refl refl (f.sittings seat x sits) in
    record {
      change = λ b. b;
      content = same_content s.content;
      step = step;
      fits = record {
        stock = f.stock;
        sittings = sittings_put (λ (w : Sitting). SittingFits (reserved_more 1 s) w) h seat (Some z)
            (λ k w apart at. sitting_stays s (reserved_more 1 s) w refl refl (f.sittings k w at))
            (λ w is. subst (λ (q : Sitting). SittingFits (reserved_more 1 s) q) (some_same is) (record { first = mine.first; claim = o.keyed; passed = o.goes_on; hold = mine.hold }));
        parts = f.parts;
        sound = step_sound seat (node_with a s h) Offer_call (Offered number key) m step (λ unbroken. f.sound) whole;
      };
      counts = (ap (λ (w : Chair). w.busy) (chair_at seat c h.chairs), ap (λ (w : Chair). w.reads) (chair_at seat c h.chairs));
    }

passed_node : (a : Stored) (s : StoreState) (h : HubState) (seat : ℕ) (x : Sitting) (at : Option (Flavour × ℕ)) → seat < length h.chairs → sitting_at h seat ≡ Some x → node_with a s (with_sitting seat (Some (passed_sitting at x)) h) ≡ node_with a s h
passed_node a s h seat x at given sits =
    (λ i. record (node_with a s h) { seats = (put (passed_sitting at x) refl ∙ sym (put x refl)) i })
    ∙ ap (node_with a s) (sit_same h seat (Some x) given (sym sits))
  where
    put : (y : Sitting) → Some (session_over a.stock y) ≡ Some (session_over a.stock x) → map (seat_over a.stock) (with_sitting seat (Some y) h).chairs ≡ put_seat seat (record (seat_in (map (seat_over a.stock) h.chairs) seat) { session = Some (session_over a.stock x) }) (map (seat_over a.stock) h.chairs)
    put y same = seats_put a.stock a.stock h seat (Some y) (Some (session_over a.stock x)) (λ k w apart is. refl) same

nothing_stepped : (a : Stored) (s : StoreState) (h : HubState) (seat : ℕ) (x : Sitting) (t : StoreState) (y : Sitting) → HubFits a s h → seat < length h.chairs → sitting_at h seat ≡ Some x → x.claim ≡ None → s.counts.broken ≡ None → (o : OffersNothing (with_sitting seat None h).chairs x s t y) → Stepped seat Offer_call Nothing s h a s (with_sitting seat (Some (passed_sitting o.passed x)) h)
nothing_stepped a s h seat x t y f given sits unclaimed whole o =
    let z = passed_sitting o.passed x in
    let mine = f.sittings seat x sits in
    let same = passed_node a s h seat x o.passed given sits in
    let free : (session_over a.stock x).claim ≡ None = ap (option_map (λ (c : Claim). c.number)) unclaimed in
    let none : OfferNothing seat (node_with a s h) (node_with a s (with_sitting seat (Some z) h)) = record { session = session_over a.stock x; has = session_is a s h seat x sits; free = free; none = none_told a s h seat x f o.none; after = same } in
    let c : Chair = record (chair_in h.chairs seat) { sitting = Some z } in
    record {
      change = λ b. b;
      content = same_content s.content;
      step = (inl whole, none);
      fits = record {
        stock = f.stock;
        sittings = sittings_put (λ (w : Sitting). SittingFits s w) h seat (Some z) (λ k w apart at. f.sittings k w at)
            (λ w is. subst (λ (q : Sitting). SittingFits s q) (some_same is) (record { first = mine.first; claim = mine.claim; passed = o.goes_on; hold = mine.hold }));
        parts = f.parts;
        sound = subst Sound (sym same) f.sound;
      };
      counts = (ap (λ (w : Chair). w.busy) (chair_at seat c h.chairs), ap (λ (w : Chair). w.reads) (chair_at seat c h.chairs));
    }

-- The desk's call.

pub offer_file_does : (v w : StoreStand) (h : HubState) (seat : ℕ) (x y : Sitting) (number : ℕ) (key : Key) → HasTurn v h seat → sitting_at h seat ≡ Some x → x.claim ≡ None → OffersFile (with_sitting seat None h).chairs x number key v.state w.state y → Leaves (OneOf (v.state.content ∷ [])) v w → StaysSettled v w → Does v h seat Offer_call (Offered number key) w (with_sitting seat (Some y) h)
offer_file_does v w h seat x y number key b sits unclaimed o l settled =
    let f = fitted_now v h seat b in
    let g = with_sitting seat (Some y) h in
    let z = claimed_sitting number key (passed_sitting o.passed x) in
    let step : Stepped seat Offer_call (Offered number key) v.state h f.keeps w.state g =
    subst (λ (t : StoreState). Stepped seat Offer_call (Offered number key) v.state h f.keeps t g) (sym o.after)
    (subst (λ (q : Sitting). Stepped seat Offer_call (Offered number key) v.state h f.keeps (reserved_more 1 v.state) (with_sitting seat (Some q) h)) (sym o.claimed)
    (offered_stepped f.keeps v.state h seat x number key w.state y f.fits sits unclaimed b.whole o)) in
    let counts : w.state.counts ≡ v.state.counts = ap (λ (t : StoreState). t.counts) o.after in
    made_does v w h g seat Offer_call (Offered number key) b (inl b.whole, counts) step
    (leaves_as _ _ v w (one_passes v h seat Offer_call) l)
    (settled (b.ready.settled b.whole) (ap (λ (c : Counts). c.broken) counts ∙ b.whole))
    (ap sitting_part (sits_at h seat (Some y)) ∙ (ap (λ (q : Sitting). sitting_part (Some q)) o.claimed ∙ ap (λ (p : Option Sitting). part_after (sitting_part p) Offer_call (Offered number key)) (sym sits)))
    (own_sits seat (Some y) h w b.ready.given (ap (λ (t : StoreState). t.seat) o.after ∙ b.seat_is))

pub offer_nothing_does : (v w : StoreStand) (h : HubState) (seat : ℕ) (x y : Sitting) → HasTurn v h seat → sitting_at h seat ≡ Some x → x.claim ≡ None → OffersNothing (with_sitting seat None h).chairs x v.state w.state y → Leaves (OneOf (v.state.content ∷ [])) v w → StaysSettled v w → Does v h seat Offer_call Nothing w (with_sitting seat (Some y) h)
offer_nothing_does v w h seat x y b sits unclaimed o l settled =
    let f = fitted_now v h seat b in
    let g = with_sitting seat (Some y) h in
    let step : Stepped seat Offer_call Nothing v.state h f.keeps w.state g =
    subst (λ (t : StoreState). Stepped seat Offer_call Nothing v.state h f.keeps t g) (sym o.after)
    (subst (λ (q : Sitting). Stepped seat Offer_call Nothing v.state h f.keeps v.state (with_sitting seat (Some q) h)) (sym o.same)
    (nothing_stepped f.keeps v.state h seat x w.state y f.fits b.ready.given sits unclaimed b.whole o)) in
    let counts : w.state.counts ≡ v.state.counts = ap (λ (t : StoreState). t.counts) o.after in
    made_does v w h g seat Offer_call Nothing b (inl b.whole, counts) step
    (leaves_as _ _ v w (one_passes v h seat Offer_call) l)
    (settled (b.ready.settled b.whole) (ap (λ (c : Counts). c.broken) counts ∙ b.whole))
    (ap sitting_part (sits_at h seat (Some y)) ∙ (ap (λ (q : Sitting). sitting_part (Some q)) o.same ∙ ap (λ (p : Option Sitting). part_after (sitting_part p) Offer_call Nothing) (sym sits)))
    (own_sits seat (Some y) h w b.ready.given (ap (λ (t : StoreState). t.seat) o.after ∙ b.seat_is))

pub offer_refused : (v w : StoreStand) (h : HubState) (seat : ℕ) (x : Sitting) (fault : StoreFault) → HasTurn v h seat → sitting_at h seat ≡ Some x → x.claim ≡ None → RefusedBy (OneOf (v.state.content ∷ [])) loses_none (OffersFull (with_sitting seat None h).chairs x v.state) fault v.state w.state → Leaves (OneOf (v.state.content ∷ [])) v w → StaysSettled v w → Does v h seat Offer_call (Refused (fault_in fault w.state.counts.faults)) w h
offer_refused v w h seat x D.Disk b sits unclaimed r l settled =
    broken_does (OneOf (v.state.content ∷ [])) loses_none v w h h seat Offer_call b r (λ k y t apart at held. refl) (one_passes v h seat Offer_call) (λ skips. skips) (same_but h seat) l refl b.ready.given
offer_refused v w h seat x D.Read b sits unclaimed r l settled = absurd r
offer_refused v w h seat x D.Full b sits unclaimed r l settled =
    let f = fitted_now v h seat b in
    let told = next_told f.keeps v.state h seat x r.0.at f.fits sits unclaimed r.0.first in
    let full : OfferFull seat (node_with f.keeps v.state h) = record { session = session_over f.keeps.stock x; has = session_is f.keeps v.state h seat x sits; some = told.entry; candidate = told.candidate; lacks = r.0.lacks } in
    let counts : w.state.counts ≡ (counted_full v.state).counts = ap (λ (t : StoreState). t.counts) r.1 in
    let step : Stepped seat Offer_call (Refused Full) v.state h f.keeps (counted_full v.state) h = record { change = λ a. a; content = same_content v.state.content; step = (b.whole, full, refl); fits = full_fits f.keeps v.state h f.fits; counts = (refl, refl) } in
    made_does v w h h seat Offer_call (Refused Full) b (full_caused v.state w.state Offer_call tt b.whole r.1)
    (subst (λ (t : StoreState). Stepped seat Offer_call (Refused Full) v.state h f.keeps t h) (sym r.1) step)
    (leaves_as _ _ v w (one_passes v h seat Offer_call) l) (settled (b.ready.settled b.whole) (ap (λ (c : Counts). c.broken) counts ∙ b.whole)) refl (own_same seat h w (ap (λ (t : StoreState). t.seat) r.1 ∙ b.seat_is))
offer_refused v w h seat x D.NoMemory b sits unclaimed r l settled =
    let f = fitted_now v h seat b in
    let step : Stepped seat Offer_call (Refused No_memory) v.state h f.keeps v.state h = record { change = λ a. a; content = same_content v.state.content; step = (b.whole, tt, refl); fits = f.fits; counts = (refl, refl) } in
    made_does v w h h seat Offer_call (Refused No_memory) b (tt, b.whole, ap (λ (t : StoreState). t.counts) r)
    (subst (λ (t : StoreState). Stepped seat Offer_call (Refused No_memory) v.state h f.keeps t h) (sym r) step)
    (leaves_as _ _ v w (one_passes v h seat Offer_call) l) (settled (b.ready.settled b.whole) (ap (λ (t : StoreState). t.counts.broken) r ∙ b.whole)) refl (own_same seat h w (ap (λ (t : StoreState). t.seat) r ∙ b.seat_is))

-- As the code goes: the session was taken out of its seat, and is put back.

pub unclaimed_at : (h : HubState) (seat : ℕ) (x : Sitting) → sitting_at h seat ≡ Some x → (seat_part h seat).claim ≡ None → x.claim ≡ None
unclaimed_at h seat x sits free = ap (λ (o : Option Sitting). (sitting_part o).claim) (sym sits) ∙ free

pub offer_does : (v w : StoreStand) (h k : HubState) (seat : ℕ) (x y : Sitting) (offer : Offer) → HasTurn v h seat → sitting_at h seat ≡ Some x → (seat_part h seat).claim ≡ None → k ≡ with_sitting seat (Some y) (with_sitting seat None h) → Offers (with_sitting seat None h).chairs x offer v.state w.state y → Leaves (OneOf (v.state.content ∷ [])) v w → StaysSettled v w → Does v h seat Offer_call (offer_answer (Ok offer)) w k
offer_does v w h k seat x y (O.File number key) b sits free put o l settled =
    subst (Does v h seat Offer_call (Offered number (key_of key)) w) (sym (put ∙ sit_twice h seat (Some y) None))
    (offer_file_does v w h seat x y number (key_of key) b sits (unclaimed_at h seat x sits free) o l settled)
offer_does v w h k seat x y O.Nothing b sits free put o l settled =
    subst (Does v h seat Offer_call Nothing w) (sym (put ∙ sit_twice h seat (Some y) None))
    (offer_nothing_does v w h seat x y b sits (unclaimed_at h seat x sits free) o l settled)

pub offer_err : (v w : StoreStand) (h k : HubState) (seat : ℕ) (x y : Sitting) (fault : StoreFault) → HasTurn v h seat → sitting_at h seat ≡ Some x → (seat_part h seat).claim ≡ None → k ≡ with_sitting seat (Some y) (with_sitting seat None h) → y ≡ x → RefusedBy (OneOf (v.state.content ∷ [])) loses_none (OffersFull (with_sitting seat None h).chairs x v.state) fault v.state w.state → Leaves (OneOf (v.state.content ∷ [])) v w → StaysSettled v w → Does v h seat Offer_call (Refused (fault_in fault w.state.counts.faults)) w k
offer_err v w h k seat x y fault b sits free put same r l settled =
    subst (Does v h seat Offer_call (Refused (fault_in fault w.state.counts.faults)) w) (sym (put ∙ sit_back h seat (Some y) b.ready.given (ap Some same ∙ sym sits)))
    (offer_refused v w h seat x fault b sits (unclaimed_at h seat x sits free) r l settled)

-- The key's limits.

abbrev pub KeyFits : Option Claim → Type 0
KeyFits o = (c : Claim) → o ≡ Some c → IsKey c.key

none_fits : KeyFits None
none_fits c is = absurd (cc)

some_fits : (number : ℕ) (key : Key) → IsKey key → KeyFits (Some (record { number = number; key = key }))
some_fits number key limits c is = subst (λ (k : Claim). IsKey k.key) (some_same is) limits

pub put_fits : (h k : HubState) (seat : ℕ) (y : Sitting) → k ≡ with_sitting seat (Some y) h → KeyFits y.claim → KeyFits (seat_part k seat).claim
put_fits h k seat y put fits =
    subst KeyFits (sym (ap (λ (g : HubState). (seat_part g seat).claim) put ∙ ap (λ (o : Option Sitting). (sitting_part o).claim) (sits_at h seat (Some y)))) fits

pub offer_fits : (h : HubState) (seat : ℕ) (x y : Sitting) (chairs : List Chair) (offer : Offer) (s t : StoreState) → sitting_at h seat ≡ Some x → (seat_part h seat).claim ≡ None → Offers chairs x offer s t y → KeyFits y.claim
offer_fits h seat x y chairs (O.File number key) s t sits free o =
    subst (λ (z : Sitting). KeyFits z.claim) (sym o.claimed) (some_fits number (key_of key) o.limits)
offer_fits h seat x y chairs O.Nothing s t sits free o =
    subst KeyFits (sym (ap (λ (z : Sitting). z.claim) o.same ∙ unclaimed_at h seat x sits free)) none_fits

pub same_fits : (h : HubState) (seat : ℕ) (x y : Sitting) → sitting_at h seat ≡ Some x → (seat_part h seat).claim ≡ None → y ≡ x → KeyFits y.claim
same_fits h seat x y sits free same =
    subst KeyFits (sym (ap (λ (z : Sitting). z.claim) same ∙ unclaimed_at h seat x sits free)) none_fits
