-- Before it takes in, a seat takes its turn, which is a row too: it queues no file.
use Rattle.std.proofs.Common.{◌≡◌, ℕ, [], Option, Some, None, refl, sym, ◌∙◌, ap, subst}
use Rattle.node_model.specs.Calls.{Counts, Queue_call, Queued, one}
use Rattle.node_model.specs.Images.{BesidePass}
use Rattle.node_model.specs.Stores.{Shelf, Stored, StoreAnswer, StoreDoes, StoreKept, StorePasses, StoreState, StoreStand, Before_it, Source_first, After_it, By_seat, Well, IsShelf}
use Rattle.hub_core.specs.Anew.{LooksAnew}
use Rattle.hub_core.specs.Hubs.{HubState, Fitted, knows_over}
use Rattle.hub_core.proofs.Keeping.{opens_shelf}
use Rattle.hub_core.proofs.Ready.{turn_fits}
use Rattle.hub_core.proofs.Turning.{before_passes}
use Rattle.outbound_desk.specs.TakenIn.{AreDrawn, EndsSo, TakenIn}
use Rattle.outbound_desk.proofs.Joining.{told_by}
use Rattle.outbound_desk.proofs.OneRow.{IsIdle, RowImages, RowPasses, made_row, row_taken}
use Rattle.outbound_desk.proofs.QuietRows.{quiet_made, still_change}
use Rattle.outbound_desk.proofs.Rows.{moved}

-- whose turn it is isn't told
same_told : (c : Option Stored) (s : StoreState) (h : HubState) (turn seat : ℕ) → knows_over c (record s { seat = turn }) h seat ≡ knows_over c s h seat
same_told None s h turn seat = refl
same_told (Some a) s h turn seat = refl

-- the store, at the seat's turn
abbrev at_turn : ℕ → StoreStand → StoreStand
at_turn seat w = record w { state = record w.state { seat = seat } }

pub turn_leaves : (s : StoreState) (seat : ℕ) (e : Shelf) → StorePasses s (By_seat seat) e → IsShelf s.content e
turn_leaves s seat e (Before_it is) = is
turn_leaves s seat e (Source_first first) = absurd first
turn_leaves s seat e (After_it answer t does is) = go answer does
  where
    go : (answer : StoreAnswer) → StoreDoes s (By_seat seat) answer t → IsShelf s.content e
    go Well does = subst (λ (u : StoreState). IsShelf u.content e) does is
    go answer does = absurd does

turn_idle : (h : HubState) (seat : ℕ) (w : StoreStand) → LooksAnew h → w.state.counts.broken ≡ None → Fitted w.state h → AreDrawn w.state → IsIdle h (at_turn seat w)
turn_idle h seat w anew whole f d = record {
  anew = anew;
  whole = whole;
  fitted = record { keeps = f.keeps; tells = f.tells; fits = turn_fits f.keeps w.state (at_turn seat w).state h seat refl f.fits };
  drawn = record { staged = d.staged; few = d.few };
}

turned_row : (h : HubState) (seat : ℕ) (old new : StoreStand) → IsIdle h (at_turn seat old) → StoreKept old (By_seat seat) Well new → TakenIn h seat (at_turn seat old) new None
turned_row h seat old new o kept =
    let s = (at_turn seat old).state in
    let counts : new.state.counts ≡ s.counts = ap (λ (u : StoreState). u.counts) kept.made in
    let still = still_change s new.state (kept.made ∙ (λ i. record s { counts = sym counts i })) in
    let call = Queue_call [] None None in
    let images : RowImages h call (at_turn seat old) new = record {
      leaves = record {
        later = kept.later;
        before = kept.before;
        since = λ k d after until image. opens_shelf (StorePasses old.state (By_seat seat)) (RowPasses h call (at_turn seat old)) (λ e p. before_passes s.content s h seat call e (turn_leaves old.state seat e p)) d (kept.since k d after until image);
      };
      settled = kept.now;
    } in
    let row = made_row h call (Queued []) (at_turn seat old) new o tt tt tt (quiet_made h o.fitted.keeps s new.state still counts o.fitted.fits o.drawn) images in
    let whole : new.state.counts.broken ≡ None = ap (λ (c : Counts). c.broken) counts ∙ o.whole in
    row_taken h call (Queued []) (at_turn seat old) new None row (subst (λ (b : Option ℕ). EndsSo (one call (Queued [])) b None) (sym whole) (tt, tt))

-- A take-in begins with its seat's turn.
pub turn_taken : (h : HubState) (seat : ℕ) (old new : StoreStand) → LooksAnew h → old.state.counts.broken ≡ None → Fitted old.state h → AreDrawn old.state → StoreKept old (By_seat seat) Well new → TakenIn h seat old new None
turn_taken h seat old new anew whole f d kept =
    let x = turned_row h seat old new (turn_idle h seat old anew whole f d) kept in
    let m = moved seat (told_by h seat (at_turn seat old)) x.events (told_by h seat new) x.rows (told_by h seat old) (same_told old.state.content old.state h seat seat) in
    record {
      events = x.events;
      takes_in = x.takes_in;
      rows = m.rows;
      ends = x.ends;
      moments = record { later = x.moments.later; before = x.moments.before };
      since = λ k e after until image. opens_shelf (λ q. BesidePass seat (told_by h seat (at_turn seat old)) x.events (told_by h seat new) x.rows q.state) (λ q. BesidePass seat (told_by h seat old) x.events (told_by h seat new) m.rows q.state) (λ q p. m.passes q.state p) e (x.since k e after until image);
      settled = x.settled;
      fitted = x.fitted;
      drawn = x.drawn;
      turn = x.turn;
    }
