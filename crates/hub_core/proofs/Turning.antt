-- What a desk's call is told by, made or refused, and where the call began.
use Rattle.std.proofs.Common.{◌≡◌, ℕ, ◌<◌, Bool, true, [], ◌∷◌, Option, Some, None, length, refl, sym, ◌∙◌, ap, subst, inl, inr}
use Rattle.node_model.specs.Items.{MarkOf}
use Rattle.node_model.specs.Calls.{Call, Answer, Refused, Disk, Caused, Counts, IsSkip, KnownStep, Before_it}
use Rattle.node_model.specs.Desks.{part_after}
use Rattle.node_model.specs.Images.{Kept}
use Rattle.node_model.specs.Stores.{Shelf, Stored, StoreState, StoreStand, StoreTied, IfTold, IsShelf}
use Rattle.hub_core.specs.Hubs.{Sitting, HubState, Fitted, IsReady, sitting_at, knows_over, hub_stand, seat_part, IsSettled}
use Rattle.hub_core.specs.HubCalls.{ShelfPasses, HasTurn, OwnCall, Does}
use Rattle.hub_core.specs.Steps.{Leaves, StaysSettled, OneOf, Broke}
use Rattle.hub_core.proofs.Keeping.{kept_of, leaves_as, leaves_then}
use Rattle.hub_core.proofs.Stepping.{Stepped, stepped_known, stepped_fitted}
use Rattle.hub_core.proofs.Breaking.{SameBut, OthersApart, broken_known}
use Rattle.hub_core.proofs.Ready.{turn_fits}
use Rattle.hub_core.proofs.Ends.{Sits}

-- The turn.

abbrev pub fitted_now : (v : StoreStand) (h : HubState) (seat : ℕ) → HasTurn v h seat → Fitted v.state h
fitted_now v h seat b = b.ready.fitted b.whole

pub sits_now : (v : StoreStand) (h : HubState) (seat : ℕ) (x : Sitting) (b : HasTurn v h seat) → StoreTied v.state → sitting_at h seat ≡ Some x → Sits (fitted_now v h seat b).keeps v.state h seat x
sits_now v h seat x b tied sits =
    record { fits = (b.ready.fitted b.whole).fits; sits = sits; seat_is = b.seat_is; tied = tied }

pub turn_ready : (u v : StoreStand) (h : HubState) (seat : ℕ) → IsReady u h seat → v.state ≡ record u.state { seat = seat } → StaysSettled u v → v.state.counts.broken ≡ None → HasTurn v h seat
turn_ready u v h seat ready turn settled whole =
    let was : u.state.counts.broken ≡ None = ap (λ (s : StoreState). s.counts.broken) (sym turn) ∙ whole in
    let f = ready.fitted was in
    record {
      ready = record {
        given = ready.given;
        fitted = λ w. record { keeps = f.keeps; tells = subst (λ (s : StoreState). IfTold s.content (λ z. z ≡ f.keeps)) (sym turn) f.tells; fits = turn_fits f.keeps u.state v.state h seat turn f.fits };
        settled = λ w. settled (ready.settled was) whole;
      };
      seat_is = ap (λ (s : StoreState). s.seat) turn;
      whole = whole;
    }

pub before_passes : (c : Option Stored) (s : StoreState) (h : HubState) (seat : ℕ) (call : Call) (d : Shelf) → IsShelf c d → ShelfPasses c s h seat call d
before_passes None s h seat call d is = is
before_passes (Some a) s h seat call d is = Before_it (ap (λ (e : Shelf). e.state) is)

before_one : (c : Option Stored) (s : StoreState) (h : HubState) (seat : ℕ) (call : Call) (d : Shelf) → OneOf (c ∷ []) d → ShelfPasses c s h seat call d
before_one c s h seat call d (inl is) = before_passes c s h seat call d is
before_one c s h seat call d (inr none) = absurd none

-- whose turn it is isn't told
same_passes : (c : Option Stored) (s : StoreState) (h : HubState) (seat : ℕ) (call : Call) (d : Shelf) → ShelfPasses c (record s { seat = seat }) h seat call d → ShelfPasses c s h seat call d
same_passes None s h seat call d p = p
same_passes (Some a) s h seat call d p = p

same_known : (c : Option Stored) (s : StoreState) (h : HubState) (seat : ℕ) → knows_over c (record s { seat = seat }) h seat ≡ knows_over c s h seat
same_known None s h seat = refl
same_known (Some a) s h seat = refl

-- a call, told from before its seat took its turn
pub does_turn : (u v w : StoreStand) (h g : HubState) (seat : ℕ) (call : Call) (answer : Answer) → v.state ≡ record u.state { seat = seat } → Leaves (OneOf (u.state.content ∷ [])) u v → Does v h seat call answer w g → Does u h seat call answer w g
does_turn u v w h g seat call answer turn l does =
    let t : StoreState = record u.state { seat = seat } in
    let passes : Leaves (ShelfPasses t.content t h seat call) v w = subst (λ (s : StoreState). Leaves (ShelfPasses s.content s h seat call) v w) turn does.leaves in
    let step : KnownStep seat (knows_over t.content t h seat) call answer (knows_over w.state.content w.state g seat) = subst (λ (s : StoreState). KnownStep seat (knows_over s.content s h seat) call answer (knows_over w.state.content w.state g seat)) turn does.step in
    record {
      caused = subst (λ (s : StoreState). Caused s.counts call answer w.state.counts) turn does.caused;
      step = subst (λ k. KnownStep seat k call answer (knows_over w.state.content w.state g seat)) (same_known u.state.content u.state h seat) step;
      leaves =
          leaves_then (ShelfPasses u.state.content u.state h seat call) u v w
          (leaves_as (OneOf (u.state.content ∷ [])) (ShelfPasses u.state.content u.state h seat call) u v (before_one u.state.content u.state h seat call) l)
          (leaves_as (ShelfPasses u.state.content t h seat call) (ShelfPasses u.state.content u.state h seat call) v w (same_passes u.state.content u.state h seat call) passes);
      settled = does.settled;
      part = does.part;
      ready = does.ready;
      own = does.own;
    }

-- the clause of the desk, where it stays at its seat
pub kept_does : (u w : StoreStand) (h g : HubState) (seat last : ℕ) (call : Call) (answer : Answer) → last ≡ seat → Does u h seat call answer w g → Kept true (hub_stand u h seat) call answer (hub_stand w g last)
kept_does u w h g seat last call answer stays does =
    subst (λ (k : ℕ). Kept true (hub_stand u h seat) call answer (hub_stand w g k)) (sym stays) (kept_of u w h g seat call answer does.caused does.step does.leaves does.settled)

-- the clause of the desk, from where its call began
pub kept_turn : (u v w : StoreStand) (h g : HubState) (seat : ℕ) (call : Call) (answer : Answer) → v.state ≡ record u.state { seat = seat } → Leaves (OneOf (u.state.content ∷ [])) u v → Does v h seat call answer w g → Kept true (hub_stand u h seat) call answer (hub_stand w g seat)
kept_turn u v w h g seat call answer turn l does =
    kept_does u w h g seat seat call answer refl (does_turn u v w h g seat call answer turn l does)

given_on : (seat : ℕ) (h : HubState) (w : StoreStand) (g : HubState) → OwnCall seat h w g → seat < length h.chairs → seat < length g.chairs
given_on seat h w g own given = subst (λ (n : ℕ). seat < n) (sym own.seats) given

-- a call that was made
pub made_does : (v w : StoreStand) (h g : HubState) (seat : ℕ) (call : Call) (answer : Answer) (b : HasTurn v h seat) → Caused v.state.counts call answer w.state.counts → Stepped seat call answer v.state h (fitted_now v h seat b).keeps w.state g → Leaves (ShelfPasses v.state.content v.state h seat call) v w → IsSettled w → seat_part g seat ≡ part_after (seat_part h seat) call answer → OwnCall seat h w g → Does v h seat call answer w g
made_does v w h g seat call answer b caused step l settled part own =
    let f = fitted_now v h seat b in
    record {
      caused = caused;
      step = stepped_known seat call answer v.state h f w.state g step;
      leaves = l;
      settled = λ settles whole. settled;
      part = part;
      ready = record { given = given_on seat h w g own b.ready.given; fitted = λ whole. stepped_fitted seat call answer v.state h f w.state g step; settled = λ whole. settled };
      own = own;
    }

clash : {X : Type 0} {n : ℕ} {o : Option ℕ} → o ≡ Some n → o ≡ None → X
clash some none = absurd (cc)

-- a call in which the disk failed
pub broken_does : (P : Shelf → Type 0) (loses : MarkOf ℕ → Bool) (v w : StoreStand) (h g : HubState) (seat : ℕ) (call : Call) → HasTurn v h seat → Broke P loses v.state w.state → OthersApart loses h seat → ((d : Shelf) → P d → ShelfPasses v.state.content v.state h seat call d) → (IsSkip call → ⊥) → SameBut seat h g → Leaves P v w → seat_part g seat ≡ part_after (seat_part h seat) call (Refused (Disk w.state.counts.faults)) → seat < length g.chairs → Does v h seat call (Refused (Disk w.state.counts.faults)) w g
broken_does P loses v w h g seat call b broke away passes works same l part given =
    let f = fitted_now v h seat b in
    record {
      caused = (works, inr (b.whole, broke.rose, broke.counts));
      step = broken_known P loses v.state w.state h g seat call b.whole b.seat_is f broke away passes works same;
      leaves = leaves_as P (ShelfPasses v.state.content v.state h seat call) v w passes l;
      settled = λ settles. absurd settles;
      part = part;
      ready = record { given = given; fitted = λ whole. clash (ap (λ (c : Counts). c.broken) broke.counts) whole; settled = λ whole. clash (ap (λ (c : Counts). c.broken) broke.counts) whole };
      own = record { settings = same.settings; seats = same.seats; others = same.others; turn = broke.seat ∙ b.seat_is };
    }

-- a store that was broken already: the node doesn't change, whatever the hub notes
pub refused_does : (v : StoreStand) (h g : HubState) (seat : ℕ) (call : Call) (count : ℕ) → v.state.counts.broken ≡ Some count → (IsSkip call → ⊥) → ((c : Option Stored) → knows_over c v.state g seat ≡ knows_over c v.state h seat) → seat_part g seat ≡ part_after (seat_part h seat) call (Refused (Disk count)) → seat < length h.chairs → OwnCall seat h v g → Does v h seat call (Refused (Disk count)) v g
refused_does v h g seat call count broken works same part given own =
    record {
      caused = (works, inl (broken, refl));
      step = subst (λ k. KnownStep seat (knows_over v.state.content v.state h seat) call (Refused (Disk count)) k) (sym (same v.state.content)) (still v.state.content);
      leaves = Rattle.hub_core.proofs.Keeping.leaves_none _ v;
      settled = λ settles. absurd settles;
      part = part;
      ready = record { given = given_on seat h v g own given; fitted = λ whole. clash broken whole; settled = λ whole. clash broken whole };
      own = own;
    }
  where
    still : (c : Option Stored) → KnownStep seat (knows_over c v.state h seat) call (Refused (Disk count)) (knows_over c v.state h seat)
    still None = (refl, refl)
    still (Some a) = (works, inl (broken, refl))
