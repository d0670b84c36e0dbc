-- The last data of a held file comes at a hub's desk: the node has the receipt, and the hold has ended.
use Rattle.std.proofs.Common.{◌≡◌, ◌≢◌, ℕ, ◌+◌, ◌-◌, Bool, true, false, ◌==◌, List, [], ◌∷◌, ◌++◌, Option, Some, None, length, option_map, refl, sym, ◌∙◌, ap, subst, inl, arith}
use Rattle.std.proofs.lemmas.List.{append-nil}
use Rattle.ftn_addr.specs.Address.{Address}
use Rattle.node_model.specs.declared.store.StoreFault.{StoreFault}
use Rattle.node_model.specs.declared.store.StoreFault.TheVariants as D
use Rattle.node_model.specs.Items.{EntryOf, Mark, MarkOf}
use Rattle.node_model.specs.Lists.{Member, without}
use Rattle.node_model.specs.Durable.{with_receipt}
use Rattle.node_model.specs.Node.{Received_record}
use Rattle.node_model.specs.Rows.{by, DataWhole, released, receipt_of, received_record}
use Rattle.node_model.specs.Calls.{Data_call, Whole_now, Refused, NodeStep, Counts, After_it}
use Rattle.node_model.specs.Sound.{Sound}
use Rattle.node_model.specs.Stocks.{Stock, Sizes, part_in, by_part, by_some, part_committed, receipt_from, body_of}
use Rattle.node_model.specs.Stores.{Stored, StoreState, StoreStand, StoreTied, stored_after, with_bytes}
use Rattle.node_model.proofs.StepSound.{step_sound}
use Rattle.node_model.proofs.StockMaps.{by_part-map, part_committed-map}
use Rattle.hub_core.specs.Hubs.{Taking, Sitting, HubState, HubFits, SittingFits, IfClaimed, IfHeld, PartFits, with_sitting, sitting_at, session_over, hold_over, hold_places_of, node_with, taken_part}
use Rattle.hub_core.specs.HubCalls.{HasTurn, Does}
use Rattle.hub_core.specs.HubLaws.{HeldTold, held_part}
use Rattle.hub_core.specs.Skips.{AllBehind}
use Rattle.hub_core.specs.Steps.{Leaves, StaysSettled, OneOf, BrokeBy, is_part, part_under, put_received, fault_in}
use Rattle.hub_core.proofs.Breaking.{same_but}
use Rattle.hub_core.proofs.Data.{put_stored, parts_apart, put_sizes, fits_same, put_from}
use Rattle.hub_core.proofs.DataSteps.{TakesData, data_held, data_told, node_hold}
use Rattle.hub_core.proofs.Ends.{unheld_sitting}
use Rattle.hub_core.proofs.FileDoes.{placed_at}
use Rattle.hub_core.proofs.FileSteps.{busy_put, reads_put}
use Rattle.hub_core.proofs.Finding.{left_there}
use Rattle.hub_core.proofs.Keeping.{leaves_as}
use Rattle.hub_core.proofs.MoreDoes.{takes_data, data_passes, data_away, data_part}
use Rattle.hub_core.proofs.Nodes.{seats_put, session_same, session_is, node_eq, sittings_put, OthersStay}
use Rattle.hub_core.proofs.OpenParts.{number_same}
use Rattle.hub_core.proofs.Owning.{own_again}
use Rattle.hub_core.proofs.Putting.{own_put, other_put}
use Rattle.hub_core.proofs.Receiving.{other_closed, receipt_fits}
use Rattle.hub_core.proofs.Sittings.{sit_twice}
use Rattle.hub_core.proofs.Stepping.{Stepped}
use Rattle.hub_core.proofs.Turning.{fitted_now, made_does, broken_does}

some_same : {A : Type 0} {u v : A} → Some u ≡ Some v → u ≡ v
some_same e = cc

abbrev pub last_stored : Address → Taking → List ℕ → ℕ → Bool → ℕ → Stored → Stored
last_stored from t bytes session secure seat a =
    stored_after (by_part t.part (λ part stock. part_committed part secure stock)) seat (Received_record t.part from t.key session secure ∷ []) (put_stored t.part bytes seat a)

last_content : (from : Address) (t : Taking) (bytes : List ℕ) (session : ℕ) (secure : Bool) (s : StoreState) → (put_received from t bytes session secure s).content ≡ option_map (last_stored from t bytes session secure s.seat) s.content
last_content from t bytes session secure s = go s.content
  where
    go : (c : Option Stored) → option_map (stored_after (by_part t.part (λ part stock. part_committed part secure stock)) s.seat (Received_record t.part from t.key session secure ∷ [])) (option_map (put_stored t.part bytes s.seat) c) ≡ option_map (last_stored from t bytes session secure s.seat) c
    go None = refl
    go (Some a) = refl

-- the part with all its bytes
abbrev last_part : Stored → Address → Taking → List ℕ → Mark
last_part a from t bytes = record { number = t.part; from = from; key = t.key; bytes = body_of t.part a.stock ++ bytes }

last_found : (a : Stored) (from : Address) (t : Taking) (bytes : List ℕ) (seat : ℕ) → HeldTold a from t → part_in t.part (put_stored t.part bytes seat a).stock.parts ≡ Some (last_part a from t bytes)
last_found a from t bytes seat told = own_put t.part (λ (b : List ℕ). b ++ bytes) a.stock.parts (held_part a from t) told.is

stock_last : (a : Stored) (from : Address) (t : Taking) (bytes : List ℕ) (secure : Bool) (seat : ℕ) → HeldTold a from t → by_part t.part (λ part stock. part_committed part secure stock) (put_stored t.part bytes seat a).stock ≡ part_committed (last_part a from t bytes) secure (put_stored t.part bytes seat a).stock
stock_last a from t bytes secure seat told =
    ap (λ (o : Option Mark). by_some o (λ part stock. part_committed part secure stock) (put_stored t.part bytes seat a).stock) (last_found a from t bytes seat told)

sizes_last : (s : StoreState) (from : Address) (t : Taking) (bytes : List ℕ) (secure : Bool) → part_in t.part s.stock.parts ≡ Some (part_under from t) → by_part t.part (λ part stock. part_committed part secure stock) (with_bytes t.part bytes s).stock ≡ part_committed (record (part_under from t) { bytes = t.have + length bytes }) secure (with_bytes t.part bytes s).stock
sizes_last s from t bytes secure held =
    ap (λ (o : Option (MarkOf ℕ)). by_some o (λ part stock. part_committed part secure stock) (with_bytes t.part bytes s).stock) (own_put t.part (λ (n : ℕ). n + length bytes) s.stock.parts (part_under from t) held)

last_others : (a : Stored) (s : StoreState) (h : HubState) (seat : ℕ) (x : Sitting) (t : Taking) (bytes : List ℕ) → TakesData a s h seat x t → OthersStay a.stock (last_stored x.first t bytes x.number x.secure s.seat a).stock h.chairs seat
last_others a s h seat x t bytes d = λ k y apart at. session_same a.stock (last_stored x.first t bytes x.number x.secure s.seat a).stock y (λ u held.
    let other = parts_apart a s h k seat y x u t d.sits.fits apart at held d.sits.sits d.holds in
    ap (λ (st : Stock). part_in u.part st.parts) (stock_last a x.first t bytes x.secure s.seat (data_told a s h seat x t d))
    ∙ (other_closed t.part u.part (put_stored t.part bytes s.seat a).stock.parts other ∙ other_put t.part (λ (z : List ℕ). z ++ bytes) u.part a.stock.parts other))

-- The row.
pub last_row : (a : Stored) (s : StoreState) (h : HubState) (seat : ℕ) (x : Sitting) (t : Taking) (bytes : List ℕ) → TakesData a s h seat x t → t.have + length bytes ≡ t.key.size → DataWhole seat bytes (node_with a s h) (node_with (last_stored x.first t bytes x.number x.secure s.seat a) (put_received x.first t bytes x.number x.secure s) (with_sitting seat (Some (unheld_sitting x)) h))
last_row a s h seat x t bytes d all =
    let told = data_told a s h seat x t d in
    let len = told.len in
    let w = node_hold a x.first t in
    let sess = session_over a.stock x in
    let b = last_stored x.first t bytes x.number x.secure s.seat a in
    let n = node_with a s h in
    let places : s.reserved - t.places ≡ s.reserved - sess.hold_places = ap (λ (m : ℕ). s.reserved - m) (sym (ap hold_places_of d.holds)) in
    record {
      session = sess;
      has = session_is a s h seat x d.sits.sits;
      hold = w;
      holds = ap (hold_over a.stock x.first) d.holds;
      taking = d.taking;
      whole = omega (arith, all, len);
      after = node_eq (node_with b (put_received x.first t bytes x.number x.secure s) (with_sitting seat (Some (unheld_sitting x)) h)) (record (released seat sess n) { state = with_receipt (receipt_of w.number sess w.key (w.bytes ++ bytes)) a.stock.state; log = a.log ++ by seat (received_record w.number sess w.key); records = s.records + 1 })
          (ap (λ (st : Stock). st.state) (stock_last a x.first t bytes x.secure s.seat told))
          (λ i. append-nil a.log i ++ (record { seat = d.sits.seat_is i; entry = received_record t.part sess t.key } ∷ []))
          (seats_put a.stock b.stock h seat (Some (unheld_sitting x)) _ (last_others a s h seat x t bytes d) refl)
          refl refl (add_one s.records) places refl refl refl refl refl refl;
    }
  where
    add_one : (n : ℕ) → n + 0 + 1 ≡ n + 1
    add_one n = omega arith

last_queue : (from : Address) (t : Taking) (bytes : List ℕ) (session : ℕ) (secure : Bool) (s : StoreState) → (put_received from t bytes session secure s).stock.state.queue ≡ s.stock.state.queue
last_queue from t bytes session secure s = go (part_in t.part (with_bytes t.part bytes s).stock.parts)
  where
    go : (o : Option (MarkOf ℕ)) → (by_some o (λ part stock. part_committed part secure stock) (with_bytes t.part bytes s).stock).state.queue ≡ s.stock.state.queue
    go None = refl
    go (Some p) = refl

-- It goes on to fit.
pub last_fits : (a : Stored) (s : StoreState) (h : HubState) (seat : ℕ) (x : Sitting) (t : Taking) (bytes : List ℕ) → TakesData a s h seat x t → Sound (node_with (last_stored x.first t bytes x.number x.secure s.seat a) (put_received x.first t bytes x.number x.secure s) (with_sitting seat (Some (unheld_sitting x)) h)) → HubFits (last_stored x.first t bytes x.number x.secure s.seat a) (put_received x.first t bytes x.number x.secure s) (with_sitting seat (Some (unheld_sitting x)) h)
last_fits a s h seat x t bytes d sound =
    let f = d.sits.fits in
    let held = data_held a s h seat x t d in
    record {
      stock = ap (λ (st : Sizes). by_part t.part (λ part stock. part_committed part x.secure stock) st) (put_sizes a s t.part bytes f.stock)
          ∙ sym (by_part-map length t.part (λ part stock. part_committed part x.secure stock) (λ part stock. part_committed part x.secure stock) (λ part stock. part_committed-map length part x.secure stock) (put_stored t.part bytes s.seat a).stock);
      sittings = sittings_put (λ (z : Sitting). SittingFits (put_received x.first t bytes x.number x.secure s) z) h seat (Some (unheld_sitting x))
          (λ k z apart at. let fit = f.sittings k z at in record { first = fit.first; claim = subst (λ (q : List (EntryOf ℕ)). IfClaimed q z.claim) (sym (last_queue x.first t bytes x.number x.secure s)) fit.claim; passed = subst (λ (q : List (EntryOf ℕ)). AllBehind (z.first ∷ z.others) z.skipped q z.passed) (sym (last_queue x.first t bytes x.number x.secure s)) fit.passed; hold = stays k z apart at z.hold refl fit.hold })
          (λ z is. subst (λ (u : Sitting). SittingFits (put_received x.first t bytes x.number x.secure s) u) (some_same is) (record { first = (f.sittings seat x d.sits.sits).first; claim = subst (λ (q : List (EntryOf ℕ)). IfClaimed q x.claim) (sym (last_queue x.first t bytes x.number x.secure s)) (f.sittings seat x d.sits.sits).claim; passed = subst (λ (q : List (EntryOf ℕ)). AllBehind (x.first ∷ x.others) x.skipped q x.passed) (sym (last_queue x.first t bytes x.number x.secure s)) (f.sittings seat x d.sits.sits).passed; hold = tt }));
      parts = λ q there. parts q (subst (λ (st : Sizes). Member q st.parts) (sizes_last s x.first t bytes x.secure held.part) there);
      sound = sound;
    }
  where
    stays : (k : ℕ) (z : Sitting) → k ≢ seat → sitting_at h k ≡ Some z → (o : Option Taking) → z.hold ≡ o → IfHeld s z.first o → IfHeld (put_received x.first t bytes x.number x.secure s) z.first o
    stays k z apart at None is held = tt
    stays k z apart at (Some u) is held =
        let other = parts_apart a s h k seat z x u t d.sits.fits apart at is d.sits.sits d.holds in
        record {
          part = ap (λ (st : Sizes). part_in u.part st.parts) (sizes_last s x.first t bytes x.secure (data_held a s h seat x t d).part) ∙ (other_closed t.part u.part (with_bytes t.part bytes s).stock.parts other ∙ (other_put t.part (λ (n : ℕ). n + length bytes) u.part s.stock.parts other ∙ held.part));
          kept = held.kept;
        }

    parts : (q : MarkOf ℕ) → Member q (without (λ (p : MarkOf ℕ). p.number == t.part) (with_bytes t.part bytes s).stock.parts) → PartFits (last_stored x.first t bytes x.number x.secure s.seat a).stock.state q
    parts q there =
        let l = left_there (λ (p : MarkOf ℕ). p.number == t.part) (with_bytes t.part bytes s).stock.parts q there in
        let c = put_from s t.part bytes q l.0 in
        let apart : t.part ≢ q.number = λ same. off (number_same q.number t.part (sym same)) l.1 in
        subst (λ (st : Stock). PartFits st.state q) (sym (stock_last a x.first t bytes x.secure s.seat (data_told a s h seat x t d)))
        (receipt_fits a.stock.state (receipt_from (last_part a x.first t bytes) x.secure) q (fits_same a.stock.state c.q q c.number c.from c.key (d.sits.fits.parts c.q c.there)) apart)
      where
        off : {X : Type 0} {b : Bool} → b ≡ true → b ≡ false → X
        off {X} {b} t e = absurd (cc)

pub last_stepped : (a : Stored) (s : StoreState) (h : HubState) (seat : ℕ) (x : Sitting) (t : Taking) (bytes : List ℕ) → TakesData a s h seat x t → t.have + length bytes ≡ t.key.size → Stepped seat (Data_call bytes) Whole_now s h a (put_received x.first t bytes x.number x.secure s) (with_sitting seat (Some (unheld_sitting x)) h)
last_stepped a s h seat x t bytes d all =
    let g = with_sitting seat (Some (unheld_sitting x)) h in
    let step : NodeStep seat (node_with a s h) (Data_call bytes) Whole_now (node_with (last_stored x.first t bytes x.number x.secure s.seat a) (put_received x.first t bytes x.number x.secure s) g) = (inl d.whole, last_row a s h seat x t bytes d all) in
    record {
      change = last_stored x.first t bytes x.number x.secure s.seat;
      content = last_content x.first t bytes x.number x.secure s;
      step = step;
      fits = last_fits a s h seat x t bytes d (step_sound seat (node_with a s h) (Data_call bytes) Whole_now _ step (λ unbroken. d.sits.fits.sound) d.whole);
      counts = (busy_put h seat (Some (unheld_sitting x)), reads_put h seat (Some (unheld_sitting x)));
    }

pub last_does : (v w : StoreStand) (k : HubState) (seat : ℕ) (x y : Sitting) (t : Taking) (bytes : List ℕ) → HasTurn v (with_sitting seat (Some x) k) seat → StoreTied v.state → x.hold ≡ Some t → t.taking ≡ true → t.have + length bytes ≡ t.key.size → w.state ≡ put_received x.first t bytes x.number x.secure v.state → y ≡ unheld_sitting x → Leaves (OneOf (v.state.content ∷ (put_received x.first t bytes x.number x.secure v.state).content ∷ [])) v w → StaysSettled v w → Does v (with_sitting seat (Some x) k) seat (Data_call bytes) Whole_now w (with_sitting seat (Some y) k)
last_does v w k seat x y t bytes b tied holds taking all after same l settled =
    let h = with_sitting seat (Some x) k in
    let f = fitted_now v h seat b in
    let d = takes_data v k seat x t b tied holds taking in
    let step = last_stepped f.keeps v.state h seat x t bytes d all in
    let counts : w.state.counts ≡ v.state.counts = ap (λ (z : StoreState). z.counts) after in
    let twice : with_sitting seat (Some (unheld_sitting x)) h ≡ with_sitting seat (Some y) k = sit_twice k seat (Some (unheld_sitting x)) (Some x) ∙ ap (λ (z : Sitting). with_sitting seat (Some z) k) (sym same) in
    made_does v w h (with_sitting seat (Some y) k) seat (Data_call bytes) Whole_now b (inl b.whole, counts)
    (placed_at seat _ _ v.state h f.keeps (put_received x.first t bytes x.number x.secure v.state) w.state (with_sitting seat (Some (unheld_sitting x)) h) (with_sitting seat (Some y) k) after twice step)
    (leaves_as _ _ v w (data_passes v h seat bytes b (put_received x.first t bytes x.number x.secure v.state) step.change step.content (After_it b.whole Whole_now _ step.step.1 refl)) l)
    (settled (b.ready.settled b.whole) (ap (λ (c : Counts). c.broken) counts ∙ b.whole))
    (data_part k seat x y bytes Whole_now (ap (λ (z : Sitting). taken_part z.hold) same) (ap (λ (z : Sitting). z.claim) same))
    (own_again seat (Some x) (Some y) k w (ap (λ (z : StoreState). z.seat) after ∙ b.seat_is))

pub last_broken : (v w : StoreStand) (k : HubState) (seat : ℕ) (x : Sitting) (t : Taking) (bytes : List ℕ) (fault : StoreFault) → HasTurn v (with_sitting seat (Some x) k) seat → StoreTied v.state → x.hold ≡ Some t → t.taking ≡ true → t.have + length bytes ≡ t.key.size → BrokeBy (OneOf (v.state.content ∷ (put_received x.first t bytes x.number x.secure v.state).content ∷ [])) (is_part t.part) fault v.state w.state → Leaves (OneOf (v.state.content ∷ (put_received x.first t bytes x.number x.secure v.state).content ∷ [])) v w → Does v (with_sitting seat (Some x) k) seat (Data_call bytes) (Refused (fault_in fault w.state.counts.faults)) w (with_sitting seat (Some x) k)
last_broken v w k seat x t bytes D.Disk b tied holds taking all broke l =
    let h = with_sitting seat (Some x) k in
    let f = fitted_now v h seat b in
    let d = takes_data v k seat x t b tied holds taking in
    let step = last_stepped f.keeps v.state h seat x t bytes d all in
    broken_does (OneOf (v.state.content ∷ (put_received x.first t bytes x.number x.secure v.state).content ∷ [])) (is_part t.part) v w h h seat (Data_call bytes) b broke (data_away f.keeps v.state h seat x t d) (data_passes v h seat bytes b (put_received x.first t bytes x.number x.secure v.state) step.change step.content (After_it b.whole Whole_now _ step.step.1 refl)) (λ skips. skips) (same_but h seat) l refl b.ready.given
last_broken v w k seat x t bytes D.Read b tied holds taking all broke l = absurd broke
last_broken v w k seat x t bytes D.Full b tied holds taking all broke l = absurd broke
last_broken v w k seat x t bytes D.NoMemory b tied holds taking all broke l = absurd broke
