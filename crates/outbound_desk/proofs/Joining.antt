-- Steps of a take-in one behind another are rows one behind another.
use Rattle.std.proofs.Common.{◌≡◌, ◌⊎◌, ℕ, ◌≤◌, ◌<◌, List, [], ◌++◌, Option, Some, None, option_map, refl, sym, ◌∙◌, ap, subst, inl, inr, arith, le_refl}
use Rattle.node_model.specs.Calls.{AllMade, Counts, Counts_alone, Disk, EndsRefused, Event, Fault, Knows, No_memory, Queue_call, Refused, Tells, one}
use Rattle.node_model.specs.Images.{BesidePass, IsState}
use Rattle.node_model.specs.Stores.{Shelf, Stored, StoreState, StoreStand, OpensShelf}
use Rattle.hub_core.specs.Anew.{LooksAnew}
use Rattle.hub_core.specs.Hubs.{HubState, Fitted, IsSettled, chair_in, knows_over, node_with}
use Rattle.hub_core.proofs.Keeping.{le_total, leaves_none, opens_shelf}
use Rattle.take_steps.specs.Steps.{KeepsState, Quiet, StepFrom, Stepped}
use Rattle.take_steps.specs.declared.wanting.Wanting.{Wanting}
use Rattle.take_steps.specs.declared.wanting.Wanting.TheVariants.{Memory}
use Rattle.outbound_desk.specs.TakenIn.{AreDrawn, EndsSo, TakenIn, fault_for}
use Rattle.outbound_desk.proofs.QuietRows.{QuietChange, node_quiet, quiet_change, quiet_row, still_change}
use Rattle.outbound_desk.proofs.Refusals.{memory_row}
use Rattle.outbound_desk.proofs.OneRow.{IsIdle, RowImages, RowPasses, row_taken}
use Rattle.outbound_desk.proofs.Rows.{all_made, all_take_in, end_passed, ended, ends_behind, joined}
use Rattle.outbound_desk.proofs.Steps.{failed_taken, stepped_taken}

-- What a hub tells over a store.
abbrev pub told_by : HubState → ℕ → StoreStand → Knows
told_by h seat w = knows_over w.state.content w.state h seat

-- where the take-in is now
abbrev idle_now : (h : HubState) (seat : ℕ) (a b : StoreStand) (was : Option Wanting) → LooksAnew h → b.state.counts.broken ≡ None → TakenIn h seat a b was → IsIdle h b
idle_now h seat a b was anew whole x = record { anew = anew; whole = whole; fitted = x.fitted whole; drawn = x.drawn whole }

-- No step.
pub taken_none : (h : HubState) (seat : ℕ) (w : StoreStand) → w.state.counts.broken ≡ None → Fitted w.state h → AreDrawn w.state → IsSettled w → w.state.seat ≡ seat → TakenIn h seat w w None
taken_none h seat w whole f d settled turn = record {
  events = [];
  takes_in = tt;
  rows = refl;
  ends = subst (λ (b : Option ℕ). EndsSo [] b None) (sym whole) tt;
  moments = record { later = le_refl _; before = λ k d within image. image };
  since = λ k d after until image. absurd (omega (arith, after, until));
  settled = λ _. settled;
  fitted = λ _. f;
  drawn = λ _. d;
  turn = turn;
}

-- One behind another.

abbrev Passed : (h : HubState) (seat : ℕ) (old new : StoreStand) (now : Option Wanting) → TakenIn h seat old new now → Shelf → Type 0
Passed h seat old new now x e = BesidePass seat (told_by h seat old) x.events (told_by h seat new) x.rows e.state

both_taken : (h : HubState) (seat : ℕ) (a b c : StoreStand) (was now : Option Wanting) (x : TakenIn h seat a b was) (y : TakenIn h seat b c now) → EndsSo (x.events ++ y.events) c.state.counts.broken now → TakenIn h seat a c now
both_taken h seat a b c was now x y ends =
    let j = joined seat (told_by h seat a) x.events (told_by h seat b) x.rows y.events (told_by h seat c) y.rows in
    let first = x.moments.later in
    let second = y.moments.later in
    record {
      events = x.events ++ y.events;
      takes_in = all_take_in x.events y.events x.takes_in y.takes_in;
      rows = j.rows;
      ends = ends;
      moments = record { later = omega (arith, first, second); before = λ k d within image. x.moments.before k d within (y.moments.before k d (omega (arith, first, within)) image) };
      since = λ k d after until image. go (λ e. BesidePass seat (told_by h seat a) (x.events ++ y.events) (told_by h seat c) j.rows e.state) (λ e p. j.left e.state p) (λ e p. j.right e.state p) k d after until image (le_total k b.moment);
      settled = y.settled;
      fitted = y.fitted;
      drawn = y.drawn;
      turn = y.turn;
    }
  where
    go : (Q : Shelf → Type 0) → ((e : Shelf) → Passed h seat a b was x e → Q e) → ((e : Shelf) → Passed h seat b c now y e → Q e) → (k : ℕ) (d : Option Shelf) → a.moment < k → k ≤ c.moment → c.images k d → (k ≤ b.moment) ⊎ (b.moment < k) → OpensShelf Q d
    go Q left right k d after until image (inl early) = opens_shelf (Passed h seat a b was x) Q left d (x.since k d after early (y.moments.before k d early image))
    go Q left right k d after until image (inr late) = opens_shelf (Passed h seat b c now y) Q right d (y.since k d late until image)

ends_then : (es fs : List Event) (broken : Option ℕ) (now : Option Wanting) → AllMade es → EndsSo fs broken now → EndsSo (es ++ fs) broken now
ends_then es fs (Some count) now made ends = ends_behind es fs (Disk count) ends
ends_then es fs None None made ends = all_made es fs made ends
ends_then es fs None (Some want) made ends = ends_behind es fs (fault_for want) ends

-- Nothing was wanted before, and the store wasn't broken.
pub taken_on : (h : HubState) (seat : ℕ) (a b c : StoreStand) (now : Option Wanting) → b.state.counts.broken ≡ None → TakenIn h seat a b None → TakenIn h seat b c now → TakenIn h seat a c now
taken_on h seat a b c now whole x y =
    both_taken h seat a b c None now x y (ends_then x.events y.events c.state.counts.broken now (subst (λ (o : Option ℕ). EndsSo x.events o None) whole x.ends) y.ends)

-- and it ends refused as the second part does
pub refused_on : (h : HubState) (seat : ℕ) (a b c : StoreStand) (now : Option Wanting) (fault : Fault) (whole : b.state.counts.broken ≡ None) (x : TakenIn h seat a b None) (y : TakenIn h seat b c now) → EndsRefused y.events fault → EndsRefused (taken_on h seat a b c now whole x y).events fault
unfolding taken_on both_taken
refused_on h seat a b c now fault whole x y refused = ends_behind x.events y.events fault refused

-- Once something was wanted.

quiet_knows : (h : HubState) (seat : ℕ) (s t : StoreState) (q : QuietChange s t) → t.counts ≡ s.counts → knows_over s.content s h seat ≡ knows_over t.content t h seat
quiet_knows h seat s t q counts = go s.content ∙ ap (λ (c : Option Stored). knows_over c t h seat) (sym q.content)
  where
    go : (c : Option Stored) → knows_over c s h seat ≡ knows_over (option_map q.change c) t h seat
    go None =
        λ i. Counts_alone (record { store = sym counts i; busy = (chair_in h.chairs seat).busy; reads = (chair_in h.chairs seat).reads })
    go (Some a) =
        ap Tells (sym (node_quiet h a s t q ∙ (λ i. record (node_with a s h) { faults = (counts i).faults; fulls = (counts i).fulls; broken = (counts i).broken })))

keeps_is : (c : Option Stored) (s : StoreState) (h : HubState) (seat : ℕ) (e : Shelf) → KeepsState c e → IsState (knows_over c s h seat) e.state
keeps_is None s h seat e is = is
keeps_is (Some a) s h seat e is = is

still_wanted : (h : HubState) (seat : ℕ) (a b c : StoreStand) (want : Wanting) → LooksAnew h → b.state.counts.broken ≡ None → (x : TakenIn h seat a b (Some want)) → Quiet b c → c.state.counts ≡ b.state.counts → TakenIn h seat a c (Some want)
still_wanted h seat a b c want anew whole x quiet counts =
    let q = quiet_change b.state c.state quiet.told quiet.same in
    let row = quiet_row h b c (idle_now h seat a b (Some want) anew whole x) quiet counts in
    let first = x.moments.later in
    let second = quiet.moments.later in
    let new = ended seat (told_by h seat a) x.events (told_by h seat b) x.rows (told_by h seat c) (quiet_knows h seat b.state c.state q counts) in
    record {
      events = x.events;
      takes_in = x.takes_in;
      rows = new.rows;
      ends = subst (λ (k : Counts). EndsSo x.events k.broken (Some want)) (sym counts) x.ends;
      moments = record { later = omega (arith, first, second); before = λ k d within image. x.moments.before k d within (quiet.moments.before k d (omega (arith, first, within)) image) };
      since = λ k d after until image. go (λ e. BesidePass seat (told_by h seat a) x.events (told_by h seat c) new.rows e.state) (λ e p. new.passes e.state p) k d after until image (le_total k b.moment);
      settled = row.images.settled;
      fitted = row.fitted;
      drawn = row.drawn;
      turn = row.turn ∙ x.turn;
    }
  where
    -- the last row passes what the quiet call keeps
    last : (e : Shelf) → KeepsState b.state.content e → Passed h seat a b (Some want) x e
    last e is =
        end_passed seat (told_by h seat a) x.events (told_by h seat b) x.rows (fault_for want) e.state x.takes_in (subst (λ (o : Option ℕ). EndsSo x.events o (Some want)) whole x.ends) (keeps_is b.state.content b.state h seat e is)

    go : (Q : Shelf → Type 0) → ((e : Shelf) → Passed h seat a b (Some want) x e → Q e) → (k : ℕ) (d : Option Shelf) → a.moment < k → k ≤ c.moment → c.images k d → (k ≤ b.moment) ⊎ (b.moment < k) → OpensShelf Q d
    go Q passed k d after until image (inl early) =
        opens_shelf (Passed h seat a b (Some want) x) Q passed d (x.since k d after early (quiet.moments.before k d early image))
    go Q passed k d after until image (inr late) =
        opens_shelf (KeepsState b.state.content) Q (λ e is. passed e (last e is)) d (quiet.since k d late until image)

wanted_taken : (h : HubState) (seat : ℕ) (a b c : StoreStand) (want : Wanting) (now : Option Wanting) → LooksAnew h → b.state.counts.broken ≡ None → TakenIn h seat a b (Some want) → StepFrom (Some want) b c now → TakenIn h seat a c now
wanted_taken h seat a b c want now anew whole x (same, quiet, inl counts) =
    subst (λ (o : Option Wanting). TakenIn h seat a c o) (sym same) (still_wanted h seat a b c want anew whole x quiet counts)
wanted_taken h seat a b c want now anew whole x (same, quiet, inr failed) =
    let y = subst (λ (k : ℕ). TakenIn h k b c now) x.turn (failed_taken h b c now (idle_now h seat a b (Some want) anew whole x) quiet failed) in
    let broken : c.state.counts.broken ≡ Some c.state.counts.faults = ap (λ (k : Counts). k.broken) failed.is in
    both_taken h seat a b c (Some want) now x y (subst (λ (o : Option ℕ). EndsSo (x.events ++ y.events) o now) (sym broken) (ends_behind x.events y.events (Disk c.state.counts.faults) (subst (λ (o : Option ℕ). EndsSo y.events o now) broken y.ends)))

-- A step behind what was taken in.
pub taken_then : (h : HubState) (seat : ℕ) (a b c : StoreStand) (was now : Option Wanting) → LooksAnew h → TakenIn h seat a b was → Stepped b was c now → TakenIn h seat a c now
taken_then h seat a b c None now anew x step =
    taken_on h seat a b c now step.whole x (stepped_taken h seat b c now anew x.turn (x.fitted step.whole) (x.drawn step.whole) step)
taken_then h seat a b c (Some want) now anew x step = wanted_taken h seat a b c want now anew step.whole x step.step

-- Nothing more could be done for want of memory.
pub short_of_memory : (h : HubState) (seat : ℕ) (a b : StoreStand) → LooksAnew h → b.state.counts.broken ≡ None → TakenIn h seat a b None → TakenIn h seat a b (Some Memory)
short_of_memory h seat a b anew whole x =
    let images : RowImages h (Queue_call [] None None) b b = record { leaves = leaves_none (RowPasses h (Queue_call [] None None) b) b; settled = x.settled } in
    let row = memory_row h (Queue_call [] None None) b b (idle_now h seat a b None anew whole x) tt (still_change b.state b.state refl) refl images in
    let ends : EndsSo (one (Queue_call [] None None) (Refused No_memory)) b.state.counts.broken (Some Memory) = subst (λ (o : Option ℕ). EndsSo (one (Queue_call [] None None) (Refused No_memory)) o (Some Memory)) (sym whole) refl in
    taken_on h seat a b b (Some Memory) whole x (subst (λ (k : ℕ). TakenIn h k b b (Some Memory)) x.turn (row_taken h (Queue_call [] None None) (Refused No_memory) b b (Some Memory) row ends))
