-- Data comes at a hub's desk, and more is to come: what the call is told by.
use Rattle.std.proofs.Common.{◌≡◌, ◌≢◌, ℕ, ◌+◌, ◌-◌, ◌<◌, Bool, true, false, ◌==◌, List, [], ◌∷◌, Option, Some, None, length, option_map, refl, sym, ◌∙◌, ap, subst, inl, inr, arith}
use Rattle.ftn_addr.specs.Address.{Address}
use Rattle.node_model.specs.declared.store.StoreFault.{StoreFault}
use Rattle.node_model.specs.declared.store.StoreFault.TheVariants as D
use Rattle.node_model.specs.Items.{EntryOf, MarkOf}
use Rattle.node_model.specs.Lists.{Member}
use Rattle.node_model.specs.Rows.{DataMore, grown}
use Rattle.node_model.specs.Calls.{Call, Answer, Data_call, More, Refused, Disk, NodeStep, Counts, After_it}
use Rattle.node_model.specs.Desks.{part_after, less}
use Rattle.node_model.specs.Sound.{Sound}
use Rattle.node_model.specs.Stocks.{Stock, part_in}
use Rattle.node_model.specs.Stores.{Shelf, Stored, StoreState, StoreStand, StoreTied, IsShelf, with_bytes}
use Rattle.node_model.proofs.StepSound.{step_sound}
use Rattle.hub_core.specs.Hubs.{Taking, Sitting, HubState, HubFits, SittingFits, IfClaimed, IfHeld, PartFits, with_sitting, sitting_at, session_over, hold_over, node_with, seat_part, sitting_part, taken_part, unless_dropped}
use Rattle.hub_core.specs.HubCalls.{ShelfPasses, HasTurn, Does}
use Rattle.hub_core.specs.HubLaws.{HeldTold}
use Rattle.hub_core.specs.Skips.{AllBehind}
use Rattle.hub_core.specs.Steps.{Leaves, StaysSettled, OneOf, BrokeBy, is_part, part_under, more_taking, reaches, put_marked, fault_in}
use Rattle.hub_core.proofs.Breaking.{OthersApart, same_but}
use Rattle.hub_core.proofs.Data.{put_stored, parts_apart, put_told, put_sizes, put_marked_is, stride_is, fits_same, put_from}
use Rattle.hub_core.proofs.DataSteps.{TakesData, data_held, data_told, node_hold, more_stored, grown_taking, grown_sitting, more_node, more_at}
use Rattle.hub_core.proofs.Ends.{marked_by, marked_stored, marked_content, stock_marked}
use Rattle.hub_core.proofs.FileSteps.{busy_put, reads_put, map_twice}
use Rattle.hub_core.proofs.Finding.{found}
use Rattle.hub_core.proofs.Keeping.{leaves_as}
use Rattle.hub_core.proofs.Marking.{marked_queue, marked_sizes, marked_parts, mark_fits_part}
use Rattle.hub_core.proofs.Nodes.{session_is, sittings_put, sits_at}
use Rattle.hub_core.proofs.OpenParts.{number_apart}
use Rattle.hub_core.proofs.Owning.{own_again}
use Rattle.hub_core.proofs.Putting.{own_put, other_put}
use Rattle.hub_core.proofs.Stepping.{Stepped, passes_by}
use Rattle.hub_core.proofs.Turning.{fitted_now, sits_now, before_passes, made_does, broken_does}

some_same : {A : Type 0} {u v : A} → Some u ≡ Some v → u ≡ v
some_same e = cc

-- whether the bytes reach the stride
abbrev pub stride_at : Address → Taking → List ℕ → StoreState → Bool
stride_at from t bytes s = reaches from (more_taking (length bytes) t) (with_bytes t.part bytes s)

-- The row.
pub more_row : (a : Stored) (s : StoreState) (h : HubState) (seat : ℕ) (x : Sitting) (t : Taking) (bytes : List ℕ) → TakesData a s h seat x t → t.have + length bytes < t.key.size → DataMore seat bytes (node_with a s h) (node_with (more_stored (stride_at x.first t bytes s) x.first t bytes s.seat a) (put_marked x.first t bytes s) (with_sitting seat (Some (grown_sitting (stride_at x.first t bytes s) (length bytes) t x)) h))
more_row a s h seat x t bytes d short =
    let b = stride_at x.first t bytes s in
    let told = data_told a s h seat x t d in
    let len = told.len in
    let w = node_hold a x.first t in
    let g = with_sitting seat (Some (grown_sitting b (length bytes) t x)) h in
    record {
      session = session_over a.stock x;
      has = session_is a s h seat x d.sits.sits;
      hold = w;
      holds = ap (hold_over a.stock x.first) d.holds;
      taking = d.taking;
      short = omega (arith, short, len);
      after = ap (λ (z : StoreState). node_with (more_stored b x.first t bytes s.seat a) z g) (put_marked_is x.first t bytes s)
          ∙ (more_at a s h seat x t bytes b d ∙ ap (λ (c : Bool). more_node c seat (session_over a.stock x) (grown w bytes) (node_with a s h)) (stride_is a s x.first t bytes w d.sits.fits.stock told refl refl refl));
    }

-- It goes on to fit.

more_part : (a : Stored) (s : StoreState) (from : Address) (t : Taking) (bytes : List ℕ) (b : Bool) (p : MarkOf ℕ) → StoreTied s → HeldTold a from t → part_in t.part s.stock.parts ≡ Some (part_under from t) → Member p s.stock.parts → PartFits a.stock.state p → PartFits (more_stored b from t bytes s.seat a).stock.state p
more_part a s from t bytes false p tied told part there f = f
more_part a s from t bytes true p tied told part there f =
    let told' = put_told a from t bytes s.seat told in
    subst (λ (st : Stock). PartFits st.state p) (sym (stock_marked (put_stored t.part bytes s.seat a) from (more_taking (length bytes) t) told'))
    (mark_fits_part s a.stock.state (Rattle.hub_core.specs.HubLaws.held_part (put_stored t.part bytes s.seat a) from (more_taking (length bytes) t)) (part_under from t) p tied (found (λ (q : MarkOf ℕ). q.number == t.part) s.stock.parts (part_under from t) part).there there refl refl refl f)

pub more_fits : (a : Stored) (s : StoreState) (h : HubState) (seat : ℕ) (x : Sitting) (t : Taking) (bytes : List ℕ) (b : Bool) → TakesData a s h seat x t → Sound (node_with (more_stored b x.first t bytes s.seat a) (marked_by b (part_under x.first (more_taking (length bytes) t)) (with_bytes t.part bytes s)) (with_sitting seat (Some (grown_sitting b (length bytes) t x)) h)) → HubFits (more_stored b x.first t bytes s.seat a) (marked_by b (part_under x.first (more_taking (length bytes) t)) (with_bytes t.part bytes s)) (with_sitting seat (Some (grown_sitting b (length bytes) t x)) h)
more_fits a s h seat x t bytes b d sound =
    let f = d.sits.fits in
    let s' = with_bytes t.part bytes s in
    let p = part_under x.first (more_taking (length bytes) t) in
    let held = data_held a s h seat x t d in
    record {
      stock = marked_sizes (put_stored t.part bytes s.seat a) s' b p (put_sizes a s t.part bytes f.stock);
      sittings = sittings_put (λ (z : Sitting). SittingFits (marked_by b p s') z) h seat (Some (grown_sitting b (length bytes) t x))
          (λ k z apart at. let fit = f.sittings k z at in record { first = fit.first; claim = subst (λ (q : List (EntryOf ℕ)). IfClaimed q z.claim) (sym (marked_queue b p s')) fit.claim; passed = subst (λ (q : List (EntryOf ℕ)). AllBehind (z.first ∷ z.others) z.skipped q z.passed) (sym (marked_queue b p s')) fit.passed; hold = stays k z apart at z.hold refl fit.hold })
          (λ z is. subst (λ (u : Sitting). SittingFits (marked_by b p s') u) (some_same is) (record {
            first = (f.sittings seat x d.sits.sits).first;
            claim = subst (λ (q : List (EntryOf ℕ)). IfClaimed q x.claim) (sym (marked_queue b p s')) (f.sittings seat x d.sits.sits).claim;
            passed = subst (λ (q : List (EntryOf ℕ)). AllBehind (x.first ∷ x.others) x.skipped q x.passed) (sym (marked_queue b p s')) (f.sittings seat x d.sits.sits).passed;
            hold = record { part = ap (λ (ps : List (MarkOf ℕ)). part_in t.part ps) (marked_parts b p s') ∙ own_put t.part (λ (n : ℕ). n + length bytes) s.stock.parts (part_under x.first t) held.part; kept = held.kept };
          }));
      parts = λ q there.
          let c = put_from s t.part bytes q (subst (λ (ps : List (MarkOf ℕ)). Member q ps) (marked_parts b p s') there) in
          fits_same (more_stored b x.first t bytes s.seat a).stock.state c.q q c.number c.from c.key (more_part a s x.first t bytes b c.q d.sits.tied (data_told a s h seat x t d) held.part c.there (f.parts c.q c.there));
      sound = sound;
    }
  where
    stays : (k : ℕ) (z : Sitting) → k ≢ seat → sitting_at h k ≡ Some z → (o : Option Taking) → z.hold ≡ o → IfHeld s z.first o → IfHeld (marked_by b (part_under x.first (more_taking (length bytes) t)) (with_bytes t.part bytes s)) z.first o
    stays k z apart at None is held = tt
    stays k z apart at (Some u) is held = record {
      part = ap (λ (ps : List (MarkOf ℕ)). part_in u.part ps) (marked_parts b (part_under x.first (more_taking (length bytes) t)) (with_bytes t.part bytes s)) ∙ (other_put t.part (λ (n : ℕ). n + length bytes) u.part s.stock.parts (parts_apart a s h k seat z x u t d.sits.fits apart at is d.sits.sits d.holds) ∙ held.part);
      kept = held.kept;
    }

more_counts : (b : Bool) (p : MarkOf ℕ) (s : StoreState) → (marked_by b p s).counts ≡ s.counts
more_counts true p s = refl
more_counts false p s = refl

more_seat : (b : Bool) (p : MarkOf ℕ) (s : StoreState) → (marked_by b p s).seat ≡ s.seat
more_seat true p s = refl
more_seat false p s = refl

pub more_stepped : (a : Stored) (s : StoreState) (h : HubState) (seat : ℕ) (x : Sitting) (t : Taking) (bytes : List ℕ) → TakesData a s h seat x t → t.have + length bytes < t.key.size → Stepped seat (Data_call bytes) More s h a (put_marked x.first t bytes s) (with_sitting seat (Some (grown_sitting (stride_at x.first t bytes s) (length bytes) t x)) h)
more_stepped a s h seat x t bytes d short =
    let b = stride_at x.first t bytes s in
    let p = part_under x.first (more_taking (length bytes) t) in
    let s' = with_bytes t.part bytes s in
    let y = grown_sitting b (length bytes) t x in
    let g = with_sitting seat (Some y) h in
    let is = put_marked_is x.first t bytes s in
    let step : NodeStep seat (node_with a s h) (Data_call bytes) More (node_with (more_stored b x.first t bytes s.seat a) (put_marked x.first t bytes s) g) = (inl d.whole, more_row a s h seat x t bytes d short) in
    let counts : (put_marked x.first t bytes s).counts ≡ s.counts = ap (λ (z : StoreState). z.counts) is ∙ more_counts b p s' in
    let sound : Sound (node_with (more_stored b x.first t bytes s.seat a) (put_marked x.first t bytes s) g) = step_sound seat (node_with a s h) (Data_call bytes) More _ step (λ unbroken. d.sits.fits.sound) (ap (λ (c : Counts). c.broken) counts ∙ d.whole) in
    record {
      change = more_stored b x.first t bytes s.seat;
      content = ap (λ (z : StoreState). z.content) is ∙ (marked_content b p s' ∙ map_twice (marked_stored b p s.seat) (put_stored t.part bytes s.seat) s.content);
      step = step;
      fits = subst (λ (z : StoreState). HubFits (more_stored b x.first t bytes s.seat a) z g) (sym is) (more_fits a s h seat x t bytes b d (subst (λ (z : StoreState). Sound (node_with (more_stored b x.first t bytes s.seat a) z g)) is sound));
      counts = (busy_put h seat (Some y), reads_put h seat (Some y));
    }

-- The desk's call.

pub takes_data : (v : StoreStand) (k : HubState) (seat : ℕ) (x : Sitting) (t : Taking) (b : HasTurn v (with_sitting seat (Some x) k) seat) → StoreTied v.state → x.hold ≡ Some t → t.taking ≡ true → TakesData (fitted_now v (with_sitting seat (Some x) k) seat b).keeps v.state (with_sitting seat (Some x) k) seat x t
takes_data v k seat x t b tied holds taking = record { sits = sits_now v (with_sitting seat (Some x) k) seat x b tied (sits_at k seat (Some x)); holds = holds; taking = taking; whole = b.whole }

-- a stop may leave what data makes
pub data_passes : (v : StoreStand) (h : HubState) (seat : ℕ) (bytes : List ℕ) (b : HasTurn v h seat) (t : StoreState) (f : Stored → Stored) → t.content ≡ option_map f v.state.content → Rattle.node_model.specs.Calls.Passes seat (node_with (fitted_now v h seat b).keeps v.state h) (Data_call bytes) (f (fitted_now v h seat b).keeps).stock.state → (d : Shelf) → OneOf (v.state.content ∷ t.content ∷ []) d → ShelfPasses v.state.content v.state h seat (Data_call bytes) d
data_passes v h seat bytes b t f content passes d (inl is) = before_passes v.state.content v.state h seat (Data_call bytes) d is
data_passes v h seat bytes b t f content passes d (inr (inl is)) =
    let k = fitted_now v h seat b in
    passes_by v.state.content f v.state h seat (Data_call bytes) k.keeps d k.tells passes (subst (λ (c : Option Stored). IsShelf c d) content is)
data_passes v h seat bytes b t f content passes d (inr (inr none)) = absurd none

-- other sessions' parts aren't this one's
pub data_away : (a : Stored) (s : StoreState) (h : HubState) (seat : ℕ) (x : Sitting) (t : Taking) → TakesData a s h seat x t → OthersApart (is_part t.part) h seat
data_away a s h seat x t d = λ k y u apart at held. number_apart u.part t.part (parts_apart a s h k seat y x u t d.sits.fits apart at held d.sits.sits d.holds)

pub data_part : (k : HubState) (seat : ℕ) (x y : Sitting) (bytes : List ℕ) (answer : Answer) → taken_part y.hold ≡ Rattle.node_model.specs.Desks.held_after (taken_part x.hold) (Data_call bytes) answer → y.claim ≡ x.claim → seat_part (with_sitting seat (Some y) k) seat ≡ part_after (seat_part (with_sitting seat (Some x) k) seat) (Data_call bytes) answer
data_part k seat x y bytes answer is claimed =
    ap sitting_part (sits_at k seat (Some y))
    ∙ ((λ i. record { open_now = true; claim = claimed i; held = is i })
    ∙ sym (ap (λ (o : Option Sitting). part_after (sitting_part o) (Data_call bytes) answer) (sits_at k seat (Some x))))

less_part : (n : ℕ) (b : Bool) (t : Taking) → taken_part (Some (grown_taking b n t)) ≡ less n (taken_part (Some t))
less_part n b t = go t.dropped
  where
    back : (size have more : ℕ) → size - (have + more) ≡ size - have - more
    back size have more = omega arith

    go : (c : Bool) → unless_dropped c (record { key = t.key; left = t.key.size - (t.have + n); taking = t.taking }) ≡ less n (unless_dropped c (record { key = t.key; left = t.key.size - t.have; taking = t.taking }))
    go true = refl
    go false = ap (λ (l : ℕ). Some (record { key = t.key; left = l; taking = t.taking })) (back t.key.size t.have n)

pub more_does : (v w : StoreStand) (k : HubState) (seat : ℕ) (x y : Sitting) (t : Taking) (bytes : List ℕ) → HasTurn v (with_sitting seat (Some x) k) seat → StoreTied v.state → x.hold ≡ Some t → t.taking ≡ true → t.have + length bytes < t.key.size → w.state ≡ put_marked x.first t bytes v.state → y ≡ grown_sitting (stride_at x.first t bytes v.state) (length bytes) t x → Leaves (OneOf (v.state.content ∷ (put_marked x.first t bytes v.state).content ∷ [])) v w → StaysSettled v w → Does v (with_sitting seat (Some x) k) seat (Data_call bytes) More w (with_sitting seat (Some y) k)
more_does v w k seat x y t bytes b tied holds taking short after same l settled =
    let h = with_sitting seat (Some x) k in
    let f = fitted_now v h seat b in
    let d = takes_data v k seat x t b tied holds taking in
    let step = more_stepped f.keeps v.state h seat x t bytes d short in
    let reached = stride_at x.first t bytes v.state in
    let counts : w.state.counts ≡ v.state.counts = ap (λ (z : StoreState). z.counts) after ∙ (ap (λ (z : StoreState). z.counts) (put_marked_is x.first t bytes v.state) ∙ more_counts reached (part_under x.first (more_taking (length bytes) t)) (with_bytes t.part bytes v.state)) in
    let twice : with_sitting seat (Some (grown_sitting reached (length bytes) t x)) h ≡ with_sitting seat (Some y) k = Rattle.hub_core.proofs.Sittings.sit_twice k seat (Some (grown_sitting reached (length bytes) t x)) (Some x) ∙ ap (λ (z : Sitting). with_sitting seat (Some z) k) (sym same) in
    made_does v w h (with_sitting seat (Some y) k) seat (Data_call bytes) More b (inl b.whole, counts)
    (Rattle.hub_core.proofs.FileDoes.placed_at seat _ _ v.state h f.keeps (put_marked x.first t bytes v.state) w.state (with_sitting seat (Some (grown_sitting reached (length bytes) t x)) h) (with_sitting seat (Some y) k) after twice step)
    (leaves_as _ _ v w (data_passes v h seat bytes b (put_marked x.first t bytes v.state) step.change step.content (After_it b.whole More _ step.step.1 refl)) l)
    (settled (b.ready.settled b.whole) (ap (λ (c : Counts). c.broken) counts ∙ b.whole))
    (data_part k seat x y bytes More (ap (λ (z : Sitting). taken_part z.hold) same ∙ (less_part (length bytes) reached t ∙ ap (λ (o : Option Taking). less (length bytes) (taken_part o)) (sym holds))) (ap (λ (z : Sitting). z.claim) same))
    (own_again seat (Some x) (Some y) k w (ap (λ (z : StoreState). z.seat) after ∙ (ap (λ (z : StoreState). z.seat) (put_marked_is x.first t bytes v.state) ∙ (more_seat reached (part_under x.first (more_taking (length bytes) t)) (with_bytes t.part bytes v.state) ∙ b.seat_is))))

pub more_broken : (v w : StoreStand) (k : HubState) (seat : ℕ) (x : Sitting) (t : Taking) (bytes : List ℕ) (fault : StoreFault) → HasTurn v (with_sitting seat (Some x) k) seat → StoreTied v.state → x.hold ≡ Some t → t.taking ≡ true → t.have + length bytes < t.key.size → BrokeBy (OneOf (v.state.content ∷ (put_marked x.first t bytes v.state).content ∷ [])) (is_part t.part) fault v.state w.state → Leaves (OneOf (v.state.content ∷ (put_marked x.first t bytes v.state).content ∷ [])) v w → Does v (with_sitting seat (Some x) k) seat (Data_call bytes) (Refused (fault_in fault w.state.counts.faults)) w (with_sitting seat (Some x) k)
more_broken v w k seat x t bytes D.Disk b tied holds taking short broke l =
    let h = with_sitting seat (Some x) k in
    let f = fitted_now v h seat b in
    let d = takes_data v k seat x t b tied holds taking in
    let step = more_stepped f.keeps v.state h seat x t bytes d short in
    broken_does (OneOf (v.state.content ∷ (put_marked x.first t bytes v.state).content ∷ [])) (is_part t.part) v w h h seat (Data_call bytes) b broke (data_away f.keeps v.state h seat x t d) (data_passes v h seat bytes b (put_marked x.first t bytes v.state) step.change step.content (After_it b.whole More _ step.step.1 refl)) (λ skips. skips) (same_but h seat) l refl b.ready.given
more_broken v w k seat x t bytes D.Read b tied holds taking short broke l = absurd broke
more_broken v w k seat x t bytes D.Full b tied holds taking short broke l = absurd broke
more_broken v w k seat x t bytes D.NoMemory b tied holds taking short broke l = absurd broke
