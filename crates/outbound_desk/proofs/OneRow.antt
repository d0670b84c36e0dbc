-- One call of a take-in is one row.
use Rattle.std.proofs.Common.{◌≡◌, ℕ, Option, Some, None, option_map, refl, sym, ◌∙◌, ap, subst, inl}
use Rattle.node_model.specs.Node.{Node}
use Rattle.node_model.specs.Calls.{Call, Answer, Fault, Refused, Read, Busy, Counts, counts_of, Caused, IsMade, IsSkip, KnownStep, Made, NodeStep, SeatCounted, TakesIn, Works, one}
use Rattle.node_model.specs.Calls as C
use Rattle.node_model.specs.Images.{KnownPasses}
use Rattle.node_model.specs.Stores.{Shelf, Stored, StoreState, StoreStand, IsShelf}
use Rattle.node_model.specs.Lists.{Member}
use Rattle.node_model.specs.Items.{MarkOf}
use Rattle.node_model.specs.Stocks.{sizes}
use Rattle.node_model.proofs.StepSound.{step_sound}
use Rattle.hub_core.specs.Anew.{LooksAnew}
use Rattle.hub_core.specs.Hubs.{HubState, HubFits, Sitting, SittingFits, Fitted, PartFits, IsSettled, knows_over, node_with, sitting_at}
use Rattle.hub_core.specs.HubCalls.{ShelfPasses}
use Rattle.hub_core.specs.Steps.{Leaves}
use Rattle.hub_core.proofs.Keeping.{counts_over, opens_shelf}
use Rattle.hub_core.proofs.Stepping.{Stepped, counted, passes_by, stepped_fitted, stepped_known}
use Rattle.take_steps.specs.declared.wanting.Wanting.{Wanting}
use Rattle.outbound_desk.specs.TakenIn.{AreDrawn, EndsSo, TakenIn}

-- a hub whose sessions look anew, over a store that isn't broken and fits it
pub record IsIdle (h : HubState) (w : StoreStand) : Type 0 where
  pub anew : LooksAnew h
  pub whole : w.state.counts.broken ≡ None
  pub fitted : Fitted w.state h
  pub drawn : AreDrawn w.state

-- a state that the row passes, where the store tells
abbrev pub RowPasses : HubState → Call → StoreStand → Shelf → Type 0
RowPasses h call old e = ShelfPasses old.state.content old.state h old.state.seat call e

-- what a stop may leave of the row
pub record RowImages (h : HubState) (call : Call) (old new : StoreStand) : Type 0 where
  pub leaves : Leaves (RowPasses h call old) old new
  pub settled : new.state.counts.broken ≡ None → IsSettled new

-- The row of a store's call: what it is at the node, what a stop leaves, and what holds where the disk didn't fail.
pub record OneRow (h : HubState) (call : Call) (answer : Answer) (old new : StoreStand) : Type 0 where
  pub takes : TakesIn call
  pub caused : Caused old.state.counts call answer new.state.counts
  pub step : KnownStep old.state.seat (knows_over old.state.content old.state h old.state.seat) call answer (knows_over new.state.content new.state h old.state.seat)
  pub images : RowImages h call old new
  pub fitted : new.state.counts.broken ≡ None → Fitted new.state h
  pub drawn : new.state.counts.broken ≡ None → AreDrawn new.state
  pub turn : new.state.seat ≡ old.state.seat

known : (c : Option Stored) (s : StoreState) (h : HubState) (seat : ℕ) (call : Call) (x : Shelf) → ShelfPasses c s h seat call x → KnownPasses seat (knows_over c s h seat) call x.state
known None s h seat call x p = p
known (Some a) s h seat call x p = p

pub row_taken : (h : HubState) (call : Call) (answer : Answer) (old new : StoreStand) (now : Option Wanting) → OneRow h call answer old new → EndsSo (one call answer) new.state.counts.broken now → TakenIn h old.state.seat old new now
row_taken h call answer old new now row ends =
    let s = old.state in
    let t = new.state in
    let caused : Caused (counts_of (knows_over s.content s h s.seat)) call answer (counts_of (knows_over t.content t h s.seat)) =
    subst (λ (c : Counts). Caused c call answer (counts_of (knows_over t.content t h s.seat))) (sym (counts_over s.content s h s.seat))
    (subst (λ (c : Counts). Caused s.counts call answer c) (sym (counts_over t.content t h s.seat)) row.caused) in
    record {
      events = one call answer;
      takes_in = (row.takes, tt);
      rows = (knows_over t.content t h s.seat, caused, row.step, refl);
      ends = ends;
      moments = record { later = row.images.leaves.later; before = row.images.leaves.before };
      since = λ k d after until image. opens_shelf (RowPasses h call old) _ (λ x p. inl (known s.content s h s.seat call x p)) d (row.images.leaves.since k d after until image);
      settled = row.images.settled;
      fitted = row.fitted;
      drawn = row.drawn;
      turn = row.turn;
    }

-- A row that isn't refused for a read, and doesn't turn a session away, changes no count of its seat.
abbrev pub IsPlain : Answer → Type 0
IsPlain Busy = ⊥
IsPlain (Refused (Read count)) = ⊥
IsPlain answer = Unit {0}

same_counts : (s t : StoreState) (h : HubState) (seat : ℕ) (answer : Answer) → IsPlain answer → SeatCounted (counted s h seat) answer (counted t h seat)
same_counts s t h seat Busy plain = absurd plain
same_counts s t h seat (Refused (Read count)) plain = absurd plain
same_counts s t h seat answer plain = (refl, refl)

-- A change of what may be told.

pub option_same : (c : Option Stored) → option_map (λ (x : Stored). x) c ≡ c
option_same None = refl
option_same (Some a) = refl

pub option_twice : {A B C : Type 0} (f : B → C) (g : A → B) (o : Option A) → option_map f (option_map g o) ≡ option_map (λ x. f (g x)) o
option_twice f g None = refl
option_twice f g (Some x) = refl

-- What holds of the hub after a change of its store: where its sessions look anew it fits, if its node is sound.
pub record Change (h : HubState) (s : StoreState) (a : Stored) (t : StoreState) : Type 0 where
  pub change : Stored → Stored
  pub content : t.content ≡ option_map change s.content
  pub stock : t.stock ≡ sizes (change a).stock
  pub parts : (p : MarkOf ℕ) → Member p t.stock.parts → PartFits (change a).stock.state p
  pub sittings : (x : Sitting) → x.passed ≡ None → SittingFits s x → SittingFits t x
  pub seat : t.seat ≡ s.seat

pub stepped : (h : HubState) (call : Call) (answer : Answer) (s : StoreState) (a : Stored) (t : StoreState) (c : Change h s a t) → ((k : ℕ) (x : Sitting) → sitting_at h k ≡ Some x → SittingFits s x → SittingFits t x) → IsPlain answer → t.counts.broken ≡ None → HubFits a s h → NodeStep s.seat (node_with a s h) call answer (node_with (c.change a) t h) → Stepped s.seat call answer s h a t h
stepped h call answer s a t c stay plain whole fits step = record {
  change = c.change;
  content = c.content;
  step = step;
  fits = record {
    stock = c.stock;
    sittings = λ k x at. stay k x at (fits.sittings k x at);
    parts = c.parts;
    sound = step_sound s.seat (node_with a s h) call answer (node_with (c.change a) t h) step (λ _. fits.sound) whole;
  };
  counts = same_counts s t h s.seat answer plain;
}

-- such a change leaves each session that looks anew as fit
pub stays_anew : (h : HubState) (s : StoreState) (a : Stored) (t : StoreState) → Change h s a t → LooksAnew h → (k : ℕ) (x : Sitting) → sitting_at h k ≡ Some x → SittingFits s x → SittingFits t x
stays_anew h s a t c anew k x at = c.sittings x (anew k x at)

-- Made.

pub step_made : (seat : ℕ) (old : Node) (call : Call) (answer : Answer) (new : Node) → IsMade answer → old.broken ≡ None → Made seat old call answer new → NodeStep seat old call answer new
step_made seat old call (Refused fault) new is whole m = absurd is
step_made seat old call answer new is whole m = (inl whole, m)

caused_made : (old : Counts) (call : Call) (answer : Answer) (new : Counts) → IsMade answer → old.broken ≡ None → new ≡ old → Caused old call answer new
caused_made old call (Refused fault) new is whole same = absurd is
caused_made old call answer new is whole same = (inl whole, same)

-- a change that a row makes
pub record RowMade (h : HubState) (call : Call) (answer : Answer) (s : StoreState) (a : Stored) (t : StoreState) : Type 0 where
  pub change : Change h s a t
  pub counts : t.counts ≡ s.counts
  pub made : Made s.seat (node_with a s h) call answer (node_with (change.change a) t h)
  pub drawn : AreDrawn t

-- the same of a state that is equal
pub same_row : (h : HubState) (call : Call) (answer : Answer) (s : StoreState) (a : Stored) (t u : StoreState) → u ≡ t → RowMade h call answer s a t → RowMade h call answer s a u
same_row h call answer s a t u is row = subst (RowMade h call answer s a) (sym is) row

-- a state that the row leaves
pub row_passes : (h : HubState) (call : Call) (answer : Answer) (s : StoreState) (f : Fitted s h) (t : StoreState) (d : Shelf) → s.counts.broken ≡ None → RowMade h call answer s f.keeps t → IsShelf t.content d → ShelfPasses s.content s h s.seat call d
row_passes h call answer s f t d whole row is =
    passes_by s.content row.change.change s h s.seat call f.keeps d f.tells (C.After_it whole answer (node_with (row.change.change f.keeps) t h) row.made refl) (subst (λ (c : Option Stored). IsShelf c d) row.change.content is)

pub made_row : (h : HubState) (call : Call) (answer : Answer) (old new : StoreStand) (o : IsIdle h old) → TakesIn call → IsMade answer → IsPlain answer → RowMade h call answer old.state o.fitted.keeps new.state → RowImages h call old new → OneRow h call answer old new
made_row h call answer old new o takes made plain row images =
    let s = old.state in
    let t = new.state in
    let f = o.fitted in
    let unbroken : t.counts.broken ≡ None = ap (λ (c : Counts). c.broken) row.counts ∙ o.whole in
    let step = step_made s.seat (node_with f.keeps s h) call answer (node_with (row.change.change f.keeps) t h) made o.whole row.made in
    let x = stepped h call answer s f.keeps t row.change (stays_anew h s f.keeps t row.change o.anew) plain unbroken f.fits step in
    record {
      takes = takes;
      caused = caused_made s.counts call answer t.counts made o.whole row.counts;
      step = stepped_known s.seat call answer s h f t h x;
      images = images;
      fitted = λ _. stepped_fitted s.seat call answer s h f t h x;
      drawn = λ _. row.drawn;
      turn = row.change.seat;
    }
