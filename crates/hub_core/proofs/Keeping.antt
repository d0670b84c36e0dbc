-- What a hub's call does is a call of a seat's desk, with what a stop may leave of it.
use Rattle.std.proofs.Common.{◌≡◌, ◌⊎◌, ℕ, ◌<◌, ◌≤◌, Bool, true, false, [], Option, Some, None, refl, sym, ◌∙◌, ap, subst, inl, inr, arith, option_map, nat_lt}
use Rattle.std.proofs.lemmas.Bool.Decides.{Decides-ltb}
use borrow.Author.Tests.{ltb-false}
use Rattle.node_model.specs.Durable.{Durable}
use Rattle.node_model.specs.Calls.{Call, Queue_call, Knock_call, Open_call, Offer_call, Read_call, Got_call, Skip_call, File_call, Data_call, Leave_call, Act_call, Give_call, StandBeside, Made_row, Answer, Caused, KnownStep, Counts, counts_of}
use Rattle.node_model.specs.Images.{Kept, OpensTo, Settles, IsState, KnownPasses}
use Rattle.node_model.specs.Stores.{Shelf, Stored, StoreState, StoreStand, IsShelf, OpensShelf}
use Rattle.node_model.proofs.Drifting.{drift_none}
use Rattle.hub_core.specs.Hubs.{HubState, knows_over, hub_stand, seen, state_of, IsSettled}
use Rattle.hub_core.specs.Steps.{Leaves}
use Rattle.hub_core.specs.HubCalls.{ShelfPasses}

-- no row stands beside a call of a hub's desk
none_beside : (call : Call) → StandBeside call [] []
none_beside (Open_call role peers secure moment) = (tt, refl)
none_beside (File_call key offset) = (refl, tt)
none_beside (Data_call bytes) = (refl, tt)
none_beside (Queue_call files taken answered) = (refl, refl)
none_beside (Knock_call role) = (refl, refl)
none_beside Offer_call = (refl, refl)
none_beside (Read_call place room) = (refl, refl)
none_beside (Got_call number) = (refl, refl)
none_beside (Skip_call number) = (refl, refl)
none_beside Leave_call = (refl, refl)
none_beside (Act_call dest) = (refl, refl)
none_beside Give_call = (refl, refl)

-- Images.

pub opens_shelf : (P Q : Shelf → Type 0) → ((d : Shelf) → P d → Q d) → (d : Option Shelf) → OpensShelf P d → OpensShelf Q d
opens_shelf P Q f None image = image
opens_shelf P Q f (Some d) image = f d image

pub leaves_as : (P Q : Shelf → Type 0) (a b : StoreStand) → ((d : Shelf) → P d → Q d) → Leaves P a b → Leaves Q a b
leaves_as P Q a b f l =
    record { later = l.later; before = l.before; since = λ k d after within image. opens_shelf P Q f d (l.since k d after within image) }

pub leaves_none : (P : Shelf → Type 0) (a : StoreStand) → Leaves P a a
leaves_none P a =
    record { later = omega arith; before = λ k d within image. image; since = λ k d after within image. absurd (omega (arith, after, within)) }

pub le_total : (m n : ℕ) → (m ≤ n) ⊎ (n < m)
le_total m n = go (nat_lt n m) refl
  where
    go : (b : Bool) → nat_lt n m ≡ b → (m ≤ n) ⊎ (n < m)
    go true is = inr ((Decides-ltb n m).0 is)
    go false is = inl (omega (arith, ltb-false n m is))

-- one after another
pub leaves_then : (P : Shelf → Type 0) (a b c : StoreStand) → Leaves P a b → Leaves P b c → Leaves P a c
leaves_then P a b c l m = record {
  later = omega (arith, l.later, m.later);
  before = λ k d within image. l.before k d within (m.before k d (omega (arith, l.later, within)) image);
  since = λ k d after within image. go k d after within image (le_total k b.moment);
}
  where
    go : (k : ℕ) (d : Option Shelf) → a.moment < k → k ≤ c.moment → c.images k d → (k ≤ b.moment) ⊎ (b.moment < k) → OpensShelf P d
    go k d after within image (inl early) = l.since k d after early (m.before k d early image)
    go k d after within image (inr late) = m.since k d late within image

-- where the shelf that is told stays, a stop leaves it still
pub still_settled : (a b : StoreStand) → Leaves (IsShelf b.state.content) a b → (OpensNow : (d : Option Shelf) → a.images a.moment d → OpensShelf (IsShelf b.state.content) d) → IsSettled b
still_settled a b l s d image = go (le_total b.moment a.moment)
  where
    go : (b.moment ≤ a.moment) ⊎ (a.moment < b.moment) → OpensShelf (IsShelf b.state.content) d
    go (inl early) =
        let same : b.moment ≡ a.moment = omega (arith, early, l.later) in
        s d (subst (λ (k : ℕ). a.images k d) same (l.before b.moment d early image))
    go (inr late) = l.since b.moment d late (omega arith) image

-- The desk's clause.

seen_before : (a b : StoreStand) (k : ℕ) (d : Option Durable) → ((e : Option Shelf) → b.images k e → a.images k e) → seen b.images k d → seen a.images k d
seen_before a b k d f s = (s.0, f s.0 s.1, s.2)

seen_opens : (P : Shelf → Type 0) (Q : Durable → Type 0) (e : Option Shelf) (d : Option Durable) → ((x : Shelf) → P x → Q x.state) → d ≡ option_map state_of e → OpensShelf P e → OpensTo Q d
seen_opens P Q None d f is image = absurd image
seen_opens P Q (Some x) d f is image = subst (OpensTo Q) (sym is) (f x image)

known_passes : (c : Option Stored) (s : StoreState) (h : HubState) (seat : ℕ) (call : Call) (x : Shelf) → ShelfPasses c s h seat call x → KnownPasses seat (knows_over c s h seat) call x.state
known_passes None s h seat call x p = absurd p
known_passes (Some a) s h seat call x p = p

is_state : (c : Option Stored) (s : StoreState) (h : HubState) (seat : ℕ) (x : Shelf) → IsShelf c x → IsState (knows_over c s h seat) x.state
is_state None s h seat x is = absurd is
is_state (Some a) s h seat x is = ap (λ (e : Shelf). e.state) is

pub counts_over : (c : Option Stored) (s : StoreState) (h : HubState) (seat : ℕ) → counts_of (knows_over c s h seat) ≡ s.counts
counts_over None s h seat = refl
counts_over (Some a) s h seat = refl

pub kept_of : (u v : StoreStand) (h g : HubState) (seat : ℕ) (call : Call) (answer : Answer) → Caused u.state.counts call answer v.state.counts → KnownStep seat (knows_over u.state.content u.state h seat) call answer (knows_over v.state.content v.state g seat) → Leaves (ShelfPasses u.state.content u.state h seat call) u v → (Settles answer → v.state.counts.broken ≡ None → IsSettled v) → Kept true (hub_stand u h seat) call answer (hub_stand v g seat)
kept_of u v h g seat call answer caused step l settled =
    let old = knows_over u.state.content u.state h seat in
    let new = knows_over v.state.content v.state g seat in
    record {
      rows_before = [];
      rows_after = [];
      made = record {
        seat = refl;
        mid = old;
        drift = drift_none true seat old;
        rows = record { beside = none_beside call; asks = old; before = refl; answers = new; own = Made_row tt (rw (counts_over u.state.content u.state h seat, counts_over v.state.content v.state g seat) caused) step; after = refl };
      };
      later = l.later;
      before = λ k d within image. seen_before u v k d (λ e i. l.before k e within i) image;
      since = λ k d after within image. seen_opens (ShelfPasses u.state.content u.state h seat call) _ image.0 d (λ x p. inr (inr (inl (known_passes u.state.content u.state h seat call x p)))) image.2 (l.since k image.0 after within image.1);
      now = λ settles all whole d image. seen_opens (IsShelf v.state.content) (IsState new) image.0 d (λ x p. is_state v.state.content v.state g seat x p) image.2 (settled settles (sym (ap (λ (c : Counts). c.broken) (counts_over v.state.content v.state g seat)) ∙ whole) image.0 image.1);
    }
