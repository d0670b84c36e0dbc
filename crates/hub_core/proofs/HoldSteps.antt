-- The index of held files follows a call of one seat.
use Rattle.std.proofs.Common.{◌≡◌, ◌≢◌, arith, ℕ, Bool, true, false, ◌&&◌, List, Option, Some, None, refl, sym, ◌∙◌, ap, subst, cond, option_map, Result, Ok, Err, OnOk, OnErr, IfOk}
use Rattle.std.specs.Prelude.{is_some}
use Rattle.std.proofs.lemmas.Bool.Decides.{Decides-eqb}
use Rattle.node_model.specs.declared.desk.FileIn.{FileIn}
use Rattle.node_model.specs.declared.desk.FileIn.TheVariants as F
use Rattle.node_model.specs.declared.desk.Offer.{Offer}
use Rattle.node_model.specs.declared.desk.Offer.TheVariants as O
use Rattle.node_model.specs.declared.store.StoreFault.{StoreFault}
use Rattle.node_model.specs.Stores.{Shelf, StoreState, StoreStand}
use Rattle.ftn_addr.specs.Address.{Address, same_address}
use Rattle.ftn_addr.specs.Files.{is_same}
use Rattle.ftn_addr.specs.Key.{Key, same_key}
use Rattle.file_index.proofs.Order.{same_address_is, same_key_is}
use Rattle.hub_core.specs.declared.hold_index.HoldIndex.{HoldIndex}
use Rattle.hub_core.specs.Holders.{HoldsOf, holder, holder_of, holds_filed, takes}
use Rattle.hub_core.specs.Hubs.{Sitting, Taking, Chair, HubState, dropped_taking, dropped_sitting, chair_in, put_chair, seat_part, sitting_at, sitting_part, with_sitting}
use Rattle.hub_core.specs.Indices.{is_just}
use Rattle.hub_core.specs.Opening.{with_seat}
use Rattle.hub_core.specs.Sending.{Offers, unclaimed_sitting}
use Rattle.hub_core.specs.Steps.{Answered, HeldBy, Leaves, sits_on, sitting_holds}
use Rattle.hub_core.proofs.Indexing.{finds_after, finds_still, in_others, in_own, out_others, out_own}
use Rattle.hub_core.proofs.Nodes.{sits_at, sits_apart, chair_at, chair_apart}
use Rattle.hub_core.proofs.Seating.{chair_still}
use Rattle.hub_core.proofs.Sittings.{sit_twice}

-- The seat's session is another, and what it holds is the same.

pub kept_holds : (old new : HoldIndex) (h : HubState) (seat : ℕ) (o : Option Sitting) → HoldsOf old h.chairs → ((a : Address) (k : Key) → holder new a k ≡ holder old a k) → ((a : Address) (k : Key) → sitting_holds a k o ≡ sitting_holds a k (sitting_at h seat)) → HoldsOf new (with_sitting seat o h).chairs
kept_holds old new h seat o finds did same =
    finds_still holds_filed (holder_of old) (holder_of new) h.chairs (with_sitting seat o h).chairs seat finds
    (λ k apart. chair_apart seat (record (chair_in h.chairs seat) { sitting = o }) h.chairs k apart) (λ f. did f.0 f.1)
    (λ f. ap (holds_filed f) (sits_at h seat o) ∙ same f.0 f.1)

-- a session with the same sender and hold
pub alike_holds : (index : HoldIndex) (h : HubState) (seat : ℕ) (x y : Sitting) → HoldsOf index h.chairs → sitting_at h seat ≡ Some x → y.first ≡ x.first → y.hold ≡ x.hold → HoldsOf index (with_sitting seat (Some y) h).chairs
alike_holds index h seat x y finds sits first hold =
    kept_holds index index h seat (Some y) finds (λ a k. refl) (λ a k. ap (λ (f : Address). sits_on a k f y.hold) first ∙ (ap (λ (o : Option Taking). sits_on a k x.first o) hold ∙ sym (ap (sitting_holds a k) sits)))

pub counted_holds : (index : HoldIndex) (h : HubState) (seat : ℕ) (c : Chair) → HoldsOf index h.chairs → c.sitting ≡ sitting_at h seat → HoldsOf index (put_chair seat c h.chairs)
counted_holds index h seat c finds same =
    finds_still holds_filed (holder_of index) (holder_of index) h.chairs (put_chair seat c h.chairs) seat finds
    (λ k apart. chair_apart seat c h.chairs k apart) (λ f. refl)
    (λ f. ap (λ (d : Chair). holds_filed f d.sitting) (chair_at seat c h.chairs) ∙ ap (holds_filed f) same)

pub seated_holds : {E : Type 0} (r : Result ℕ E) (index : HoldIndex) (h g : HubState) → HoldsOf index h.chairs → OnOk r (g ≡ with_seat h) → OnErr r (g ≡ h) → HoldsOf index g.chairs
seated_holds (Ok seat) index h g finds ok err =
    subst (λ (k : HubState). HoldsOf index k.chairs) (sym ok) (λ f k. finds f k ∙ ap (λ (c : Chair). holds_filed f c.sitting) (sym (chair_still h.chairs k)))
seated_holds (Err fault) index h g finds ok err = subst (λ (k : HubState). HoldsOf index k.chairs) (sym err) finds

pub dropped_holds : (index : HoldIndex) (h : HubState) (seat : ℕ) → HoldsOf index h.chairs → HoldsOf index (with_sitting seat (option_map dropped_sitting (sitting_at h seat)) h).chairs
dropped_holds index h seat finds =
    kept_holds index index h seat (option_map dropped_sitting (sitting_at h seat)) finds (λ a k. refl) (λ a k. go a k (sitting_at h seat))
  where
    part : (a : Address) (k : Key) (first : Address) (o : Option Taking) → sits_on a k first (dropped_taking o) ≡ sits_on a k first o
    part a k first None = refl
    part a k first (Some t) = refl

    go : (a : Address) (k : Key) (o : Option Sitting) → sitting_holds a k (option_map dropped_sitting o) ≡ sitting_holds a k o
    go a k None = refl
    go a k (Some x) = part a k x.first x.hold

-- What the session held is taken out.

pub released_holds : (old new : HoldIndex) (h : HubState) (seat : ℕ) (x : Sitting) (o : Option Sitting) → HoldsOf old h.chairs → sitting_at h seat ≡ Some x → ((a : Address) (k : Key) → holder new a k ≡ cond (sits_on a k x.first x.hold) None (holder old a k)) → ((a : Address) (k : Key) → sitting_holds a k o ≡ false) → HoldsOf new (with_sitting seat o h).chairs
released_holds old new h seat x o finds sits did none =
    let own : (f : Address × Key) → is_just seat (holder_of old f) ≡ sits_on f.0 f.1 x.first x.hold = λ f. finds f seat ∙ ap (holds_filed f) sits in
    finds_after holds_filed (holder_of old) (holder_of new) h.chairs (with_sitting seat o h).chairs seat finds
    (λ k apart. chair_apart seat (record (chair_in h.chairs seat) { sitting = o }) h.chairs k apart)
    (λ f k apart. ap (is_just k) (did f.0 f.1) ∙ out_others seat k (holder_of old f) (sits_on f.0 f.1 x.first x.hold) (own f) apart)
    (λ f. ap (is_just seat) (did f.0 f.1) ∙ (out_own seat (holder_of old f) (sits_on f.0 f.1 x.first x.hold) (own f) ∙ sym (ap (holds_filed f) (sits_at h seat o) ∙ none f.0 f.1)))

-- The session of a seat, in its place of the others.

pub put_again : (index : HoldIndex) (k : HubState) (seat : ℕ) (x y : Sitting) → HoldsOf index (with_sitting seat (Some y) (with_sitting seat (Some x) k)).chairs → HoldsOf index (with_sitting seat (Some y) k).chairs
put_again index k seat x y finds = subst (λ (h : HubState). HoldsOf index h.chairs) (sit_twice k seat (Some y) (Some x)) finds

-- it holds nothing more
pub released_here : (old new : HoldIndex) (k : HubState) (seat : ℕ) (x y : Sitting) → HoldsOf old (with_sitting seat (Some x) k).chairs → ((a : Address) (f : Key) → holder new a f ≡ cond (sits_on a f x.first x.hold) None (holder old a f)) → y.hold ≡ None → HoldsOf new (with_sitting seat (Some y) k).chairs
released_here old new k seat x y finds did none =
    put_again new k seat x y (released_holds old new (with_sitting seat (Some x) k) seat x (Some y) finds (sits_at k seat (Some x)) did (λ a f. ap (λ (o : Option Taking). sits_on a f y.first o) none))

-- it holds what it held
pub alike_here : (old new : HoldIndex) (k : HubState) (seat : ℕ) (x y : Sitting) → HoldsOf old (with_sitting seat (Some x) k).chairs → ((a : Address) (f : Key) → holder new a f ≡ holder old a f) → ((a : Address) (f : Key) → sits_on a f y.first y.hold ≡ sits_on a f x.first x.hold) → HoldsOf new (with_sitting seat (Some y) k).chairs
alike_here old new k seat x y finds did same =
    put_again new k seat x y (kept_holds old new (with_sitting seat (Some x) k) seat (Some y) finds did (λ a f. same a f ∙ sym (ap (sitting_holds a f) (sits_at k seat (Some x)))))

-- A file is found under no seat, where no session holds it.

none_there : (index : HoldIndex) (chairs : List Chair) (a : Address) (f : Key) → HoldsOf index chairs → is_some (holder index a f) ≡ false → (j : ℕ) → sitting_holds a f (chair_in chairs j).sitting ≡ false
none_there index chairs a f finds none j = go (holder index a f) none (finds (a, f) j)
  where
    go : (o : Option ℕ) → is_some o ≡ false → is_just j o ≡ sitting_holds a f (chair_in chairs j).sitting → sitting_holds a f (chair_in chairs j).sitting ≡ false
    go None e is = sym is
    go (Some m) e is = absurd (cc)

pub held_there : (index : HoldIndex) (k : HubState) (seat : ℕ) (x : Sitting) (f : Key) → x.hold ≡ None → HoldsOf index (with_sitting seat (Some x) k).chairs → is_some (holder index x.first f) ≡ true → HeldBy k.chairs seat x.first f
held_there index k seat x f none finds some = go (holder index x.first f) refl some
  where
    W : HubState
    W = with_sitting seat (Some x) k

    go : (o : Option ℕ) → holder index x.first f ≡ o → is_some o ≡ true → HeldBy k.chairs seat x.first f
    go None is e = absurd (cc)
    go (Some m) is e =
        let same : is_just m (Some m) ≡ true = (Decides-eqb m m).1 refl in
        let holds : sitting_holds x.first f (sitting_at W m) ≡ true = sym (finds (x.first, f) m) ∙ (ap (is_just m) is ∙ same) in
        let apart : m ≢ seat = λ (at : m ≡ seat).
        (let off : sitting_holds x.first f (sitting_at W m) ≡ false = ap (λ (j : ℕ). sitting_holds x.first f (sitting_at W j)) at ∙ (ap (sitting_holds x.first f) (sits_at k seat (Some x)) ∙ ap (λ (o : Option Taking). sits_on x.first f x.first o) none) in
        let clash : true ≡ false = sym holds ∙ off in cc) in
        record { other = m; apart = apart; holds = sym (ap (sitting_holds x.first f) (sits_apart k seat (Some x) m apart)) ∙ holds }

pub held_nowhere : (index : HoldIndex) (k : HubState) (seat : ℕ) (x : Sitting) (f : Key) → HoldsOf index (with_sitting seat (Some x) k).chairs → is_some (holder index x.first f) ≡ false → HeldBy k.chairs seat x.first f → ⊥
held_nowhere index k seat x f finds none by =
    let W = with_sitting seat (Some x) k in
    let off : sitting_holds x.first f (sitting_at W by.other) ≡ false = none_there index W.chairs x.first f finds none by.other in
    let clash : true ≡ false = sym by.holds ∙ (sym (ap (sitting_holds x.first f) (sits_apart k seat (Some x) by.other by.apart)) ∙ off) in
    cc

-- A file is taken up.

and_both : (a b c : Bool) → (a && (b && c)) ≡ true → (a ≡ true) × (b ≡ true) × (c ≡ true)
and_both true true true e = (refl, refl, refl)
and_both true true false e = absurd (cc)
and_both true false c e = absurd (cc)
and_both false b c e = absurd (cc)

free_at : (index : HoldIndex) (word : FileIn) (from : Address) (key : Key) → (takes word ≡ true → holder index from key ≡ None) → (a : Address) (k : Key) → (takes word && is_same a k from key) ≡ true → holder index a k ≡ None
free_at index word from key free a k e =
    let both = and_both (takes word) (same_address a from) (same_key k key) e in
    ap (λ (b : Address). holder index b k) (same_address_is a from both.1) ∙ (ap (holder index from) (same_key_is k key both.2) ∙ free both.0)

-- what the answer makes the session hold
answered_holds : (word : FileIn) (key : Key) (reason : ℕ) (s : StoreState) (x : Sitting) (t : StoreState) (y : Sitting) → x.hold ≡ None → Answered word key reason s x t y → (a : Address) (k : Key) → sitting_holds a k (Some y) ≡ (takes word && is_same a k x.first key)
answered_holds F.Go key reason s x t y none r a k = ap (λ (z : Sitting). sits_on a k z.first z.hold) r.holds
answered_holds (F.From place) key reason s x t y none r a k = ap (λ (z : Sitting). sits_on a k z.first z.hold) r.holds
answered_holds F.Refuse key reason s x t y none r a k = ap (λ (z : Sitting). sits_on a k z.first z.hold) r.1 ∙ ap (λ (o : Option Taking). sits_on a k x.first o) none
answered_holds F.Whole key reason s x t y none r a k = ap (λ (z : Sitting). sits_on a k z.first z.hold) r.1 ∙ ap (λ (o : Option Taking). sits_on a k x.first o) none
answered_holds F.Have key reason s x t y none r a k = ap (λ (z : Sitting). sits_on a k z.first z.hold) r.1 ∙ ap (λ (o : Option Taking). sits_on a k x.first o) none
answered_holds F.Elsewhere key reason s x t y none r a k = ap (λ (z : Sitting). sits_on a k z.first z.hold) r.1 ∙ ap (λ (o : Option Taking). sits_on a k x.first o) none
answered_holds F.Late key reason s x t y none r a k = ap (λ (z : Sitting). sits_on a k z.first z.hold) r.1 ∙ ap (λ (o : Option Taking). sits_on a k x.first o) none

pub taken_here : (old new : HoldIndex) (k : HubState) (seat : ℕ) (x y : Sitting) (word : FileIn) (key : Key) (reason : ℕ) (s t : StoreState) → x.hold ≡ None → HoldsOf old (with_sitting seat (Some x) k).chairs → (takes word ≡ true → holder old x.first key ≡ None) → ((a : Address) (f : Key) → holder new a f ≡ cond (takes word && is_same a f x.first key) (Some seat) (holder old a f)) → Answered word key reason s x t y → HoldsOf new (with_sitting seat (Some y) k).chairs
taken_here old new k seat x y word key reason s t none finds free did r =
    let h = with_sitting seat (Some x) k in
    let test : Address × Key → Bool = λ f. takes word && is_same f.0 f.1 x.first key in
    let own : (f : Address × Key) → is_just seat (holder_of old f) ≡ false = λ f. finds f seat ∙ (ap (holds_filed f) (sits_at k seat (Some x)) ∙ ap (λ (o : Option Taking). sits_on f.0 f.1 x.first o) none) in
    put_again new k seat x y
    (finds_after holds_filed (holder_of old) (holder_of new) h.chairs (with_sitting seat (Some y) h).chairs seat finds
    (λ j apart. chair_apart seat (record (chair_in h.chairs seat) { sitting = Some y }) h.chairs j apart)
    (λ f j apart. ap (is_just j) (did f.0 f.1) ∙ in_others seat j (holder_of old f) (test f) (free_at old word x.first key free f.0 f.1) apart)
    (λ f. ap (is_just seat) (did f.0 f.1) ∙ (in_own seat (holder_of old f) (test f) (own f) ∙ sym (ap (holds_filed f) (sits_at h seat (Some y)) ∙ answered_holds word key reason s x t y none r f.0 f.1))))

-- what was noted is taken out again
pub untaken : (old noted new : HoldIndex) (word : FileIn) (from : Address) (key : Key) (seat : ℕ) → (takes word ≡ true → holder old from key ≡ None) → ((a : Address) (f : Key) → holder noted a f ≡ cond (takes word && is_same a f from key) (Some seat) (holder old a f)) → ((a : Address) (f : Key) → holder new a f ≡ cond (takes word && is_same a f from key) None (holder noted a f)) → (a : Address) (f : Key) → holder new a f ≡ holder old a f
untaken old noted new word from key seat free did undid a f =
    undid a f ∙ (ap (λ (o : Option ℕ). cond (takes word && is_same a f from key) None o) (did a f) ∙ back (takes word && is_same a f from key) (holder old a f) (free_at old word from key free a f))
  where
    back : (b : Bool) (o : Option ℕ) → (b ≡ true → o ≡ None) → cond b None (cond b (Some seat) o) ≡ o
    back true o none = sym (none refl)
    back false o none = refl

-- The session after a call of its own.

-- it begins where none was
pub begun_holds : (index : HoldIndex) (h : HubState) (seat : ℕ) (x : Sitting) → HoldsOf index h.chairs → (seat_part h seat).open_now ≡ false → x.hold ≡ None → HoldsOf index (with_sitting seat (Some x) h).chairs
begun_holds index h seat x finds closed none =
    kept_holds index index h seat (Some x) finds (λ a k. refl) (λ a k. ap (λ (o : Option Taking). sits_on a k x.first o) none ∙ sym (go a k (sitting_at h seat) closed))
  where
    go : (a : Address) (k : Key) (o : Option Sitting) → (sitting_part o).open_now ≡ false → sitting_holds a k o ≡ false
    go a k None e = refl
    go a k (Some y) e = absurd (cc)

pub offered_same : (r : Result Offer StoreFault) (cs : List Chair) (s t : StoreState) (x y : Sitting) → IfOk r (λ offer. Offers cs x offer s t y) → OnErr r (y ≡ x) → (y.first ≡ x.first) × (y.hold ≡ x.hold)
offered_same (Ok (O.File number key)) cs s t x y made kept = (ap (λ (z : Sitting). z.first) made.claimed, ap (λ (z : Sitting). z.hold) made.claimed)
offered_same (Ok O.Nothing) cs s t x y made kept = (ap (λ (z : Sitting). z.first) made.same, ap (λ (z : Sitting). z.hold) made.same)
offered_same (Err fault) cs s t x y made kept = (ap (λ (z : Sitting). z.first) kept, ap (λ (z : Sitting). z.hold) kept)

pub settled_same : (r : Result (Unit {0}) StoreFault) (x y : Sitting) → OnOk r (y ≡ unclaimed_sitting x) → OnErr r (y ≡ x) → (y.first ≡ x.first) × (y.hold ≡ x.hold)
settled_same (Ok done) x y free kept = (ap (λ (z : Sitting). z.first) free, ap (λ (z : Sitting). z.hold) free)
settled_same (Err fault) x y free kept = (ap (λ (z : Sitting). z.first) kept, ap (λ (z : Sitting). z.hold) kept)

pub no_some : {A : Type 0} (o : Option A) → is_some o ≡ false → o ≡ None
no_some None e = refl
no_some (Some x) e = absurd (cc)

-- a call that changes nothing
pub leaves_same : (P : Shelf → Type 0) (v : StoreStand) → Leaves P v v
leaves_same P v = record { later = omega arith; before = λ k d below i. i; since = λ k d below upto i. absurd (omega (arith, below, upto)) }
