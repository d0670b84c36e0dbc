-- Rows of a take-in stand before the opening of a session, or refuse it.
use Rattle.std.proofs.Common.{◌≡◌, ◌⊎◌, ℕ, Bool, true, ◌≤◌, ◌<◌, List, [], ◌++◌, Option, Some, None, option_map, refl, sym, ◌∙◌, ap, subst, inl, inr, arith}
use Rattle.ftn_addr.specs.Address.{Address}
use Rattle.node_model.specs.declared.words.Role.{Role}
use Rattle.node_model.specs.Durable.{Durable}
use Rattle.node_model.specs.Calls.{AllMade, AllTakeIn, Answer, Beside, Counts, Disk, EndsRefused, Event, Fault, Knows, Made_row, Missing, No_memory, Open_call, OwnRow, Refused, Rowed, Turned, turned}
use Rattle.node_model.specs.Images.{BesidePass, IsState, Kept, OpensTo, OwnPasses, RowsPass, TurnPasses}
use Rattle.node_model.specs.Stores.{Shelf, Stored, StoreState, StoreStand, IsShelf, OpensShelf}
use Rattle.node_model.proofs.Drifting.{drift_none}
use Rattle.hub_core.specs.Anew.{LooksAnew}
use Rattle.hub_core.specs.Hubs.{HubState, hub_stand, knows_over, seen, state_of}
use Rattle.hub_core.proofs.Keeping.{counts_over, le_total}
use Rattle.take_steps.specs.declared.wanting.Wanting.{Wanting}
use Rattle.take_steps.specs.declared.wanting.Wanting.TheVariants.{Memory}
use Rattle.outbound_desk.specs.TakenIn.{EndsSo, TakenIn, fault_for}
use Rattle.outbound_desk.proofs.Joining.{short_of_memory, told_by}
use Rattle.outbound_desk.proofs.Rows.{all_made, all_take_in, ended, ends_behind, joined}

-- Rows before the rows of an opening.

record OwnBehind (seat : ℕ) (before : List Event) (old : Knows) (asked : Event) (new : Knows) (o : OwnRow seat before old asked new) (es : List Event) : Type 0 where
  pub own : OwnRow seat (es ++ before) old asked new
  pub passes : (d : Durable) → OwnPasses seat before old asked new o d → OwnPasses seat (es ++ before) old asked new own d

own_behind : (seat : ℕ) (es before : List Event) (old : Knows) (asked : Event) (new : Knows) → AllMade es → (o : OwnRow seat before old asked new) → OwnBehind seat before old asked new o es
own_behind seat es before old asked new made (Made_row all caused step) =
    record { own = Made_row (all_made es before made all) caused step; passes = λ d p. p }
own_behind seat es before old asked new made (Missing fault refused is same) =
    record { own = Missing fault (ends_behind es before fault refused) is same; passes = λ d p. absurd p }

module _ (role : Role) (peers : List Address) (secure : Bool) (moment : ℕ) where
  abbrev asked_so : Answer → Event
  asked_so answer = record { call = Open_call role peers secure moment; answer = answer }

  abbrev opening : Answer → List Event → List Event → Turned
  opening answer before after = turned (Open_call role peers secure moment) answer before after

  record RowsBehind (seat : ℕ) (first : Knows) (es : List Event) (mid : Knows) (x : Beside seat first es mid) (answer : Answer) (before after : List Event) (new : Knows) (r : Rowed seat mid (opening answer before after) new) : Type 0 where
    pub rows : Rowed seat first (opening answer (es ++ before) after) new
    pub front : (d : Durable) → BesidePass seat first es mid x d → RowsPass seat first (opening answer (es ++ before) after) new rows d
    pub back : (d : Durable) → RowsPass seat mid (opening answer before after) new r d → RowsPass seat first (opening answer (es ++ before) after) new rows d

  rows_behind : (seat : ℕ) (first : Knows) (es : List Event) (mid : Knows) (x : Beside seat first es mid) → AllTakeIn es → AllMade es → (answer : Answer) (before after : List Event) (new : Knows) (r : Rowed seat mid (opening answer before after) new) → RowsBehind seat first es mid x answer before after new r
  rows_behind seat first es mid x takes made answer before after new r =
      let j = joined seat first es mid x before r.asks r.before in
      let o = own_behind seat es before r.asks (asked_so answer) r.answers made r.own in
      record {
        rows = record { beside = (all_take_in es before takes r.beside.0, r.beside.1); asks = r.asks; before = j.rows; answers = r.answers; own = o.own; after = r.after };
        front = λ d p. inl (j.left d p);
        back = λ d p. go (λ e. BesidePass seat first (es ++ before) r.asks j.rows e) (λ e. OwnPasses seat (es ++ before) r.asks (asked_so answer) r.answers o.own e) d (j.right d) (o.passes d) p;
      }
    where
      go : (P Q : Durable → Type 0) (d : Durable) → (BesidePass seat mid before r.asks r.before d → P d) → (OwnPasses seat before r.asks (asked_so answer) r.answers r.own d → Q d) → RowsPass seat mid (opening answer before after) new r d → P d ⊎ (Q d ⊎ BesidePass seat r.answers after new r.after d)
      go P Q d right own (inl p) = inl (right p)
      go P Q d right own (inr (inl p)) = inr (inl (own p))
      go P Q d right own (inr (inr p)) = inr (inr p)

  -- Images, seen through their durable state.

  seen_as : (P : Shelf → Type 0) (Q : Durable → Type 0) (e : Option Shelf) (d : Option Durable) → ((x : Shelf) → P x → Q x.state) → d ≡ option_map state_of e → OpensShelf P e → OpensTo Q d
  seen_as P Q None d f is image = absurd image
  seen_as P Q (Some x) d f is image = subst (OpensTo Q) (sym is) (f x image)

  opens_as : (P Q : Durable → Type 0) (d : Option Durable) → ((x : Durable) → P x → Q x) → OpensTo P d → OpensTo Q d
  opens_as P Q None f image = image
  opens_as P Q (Some d) f image = f d image

  -- The session opens behind what was taken in.
  pub begins_behind : (h g : HubState) (seat : ℕ) (v w u : StoreStand) (answer : Answer) → w.state.counts.broken ≡ None → TakenIn h seat v w None → Kept true (hub_stand w h seat) (Open_call role peers secure moment) answer (hub_stand u g seat) → Kept true (hub_stand v h seat) (Open_call role peers secure moment) answer (hub_stand u g seat)
  begins_behind h g seat v w u answer whole x kept =
      let made : AllMade x.events = subst (λ (o : Option ℕ). EndsSo x.events o None) whole x.ends in
      let near = ended seat (told_by h seat v) x.events (told_by h seat w) x.rows kept.made.mid (sym kept.made.drift) in
      let behind = rows_behind seat (told_by h seat v) x.events kept.made.mid near.rows x.takes_in made answer kept.rows_before kept.rows_after (told_by g seat u) kept.made.rows in
      let first = x.moments.later in
      let second = kept.later in
      let front : (d : Durable) → BesidePass seat (told_by h seat v) x.events (told_by h seat w) x.rows d → RowsPass seat (told_by h seat v) (opening answer (x.events ++ kept.rows_before) kept.rows_after) (told_by g seat u) behind.rows d = λ d p. behind.front d (near.passes d p) in
      record {
        rows_before = x.events ++ kept.rows_before;
        rows_after = kept.rows_after;
        made = record { seat = refl; mid = told_by h seat v; drift = drift_none true seat (told_by h seat v); rows = behind.rows };
        later = omega (arith, first, second);
        before = λ k d within image. let y = kept.before k d (omega (arith, first, within)) image in (y.0, x.moments.before k y.0 within y.1, y.2);
        since = λ k d after until image. since_behind (λ e. RowsPass seat (told_by h seat v) (opening answer (x.events ++ kept.rows_before) kept.rows_after) (told_by g seat u) behind.rows e) front behind.back k d after until image (le_total k w.moment);
        now = kept.now;
      }
    where
      since_behind : (Q : Durable → Type 0) → ((d : Durable) → BesidePass seat (told_by h seat v) x.events (told_by h seat w) x.rows d → Q d) → ((d : Durable) → RowsPass seat kept.made.mid (opening answer kept.rows_before kept.rows_after) (told_by g seat u) kept.made.rows d → Q d) → (k : ℕ) (d : Option Durable) → v.moment < k → k ≤ u.moment → seen u.images k d → (k ≤ w.moment) ⊎ (w.moment < k) → OpensTo (λ e. ⊥ ⊎ Q e) d
      since_behind Q front back k d after until image (inl early) =
          let y = kept.before k d early image in
          seen_as (λ e. BesidePass seat (told_by h seat v) x.events (told_by h seat w) x.rows e.state) (λ e. ⊥ ⊎ Q e) y.0 d (λ e p. inr (front e.state p)) y.2 (x.since k y.0 after early y.1)
      since_behind Q front back k d after until image (inr late) = opens_as (TurnPasses true (hub_stand w h seat).state (opening answer kept.rows_before kept.rows_after) (hub_stand u g seat).state kept.made) (λ e. ⊥ ⊎ Q e) d (λ e p. step e p) (kept.since k d late until image)
        where
          step : (e : Durable) → TurnPasses true (hub_stand w h seat).state (opening answer kept.rows_before kept.rows_after) (hub_stand u g seat).state kept.made e → ⊥ ⊎ Q e
          step e (inl drifted) = absurd drifted
          step e (inr p) = inr (back e p)

  -- What was taken in ends refused, and so is the session.
  pub refused_behind : (h : HubState) (seat : ℕ) (v w : StoreStand) (now : Option Wanting) (fault : Fault) (x : TakenIn h seat v w now) → EndsRefused x.events fault → Kept true (hub_stand v h seat) (Open_call role peers secure moment) (Refused fault) (hub_stand w h seat)
  refused_behind h seat v w now fault x refused =
      record {
        rows_before = x.events;
        rows_after = [];
        made = record {
          seat = refl;
          mid = told_by h seat v;
          drift = drift_none true seat (told_by h seat v);
          rows = record { beside = (x.takes_in, refl); asks = told_by h seat w; before = x.rows; answers = told_by h seat w; own = Missing fault refused refl refl; after = refl };
        };
        later = x.moments.later;
        before = λ k d within image. (image.0, x.moments.before k image.0 within image.1, image.2);
        since = λ k d after until image. seen_as (λ e. BesidePass seat (told_by h seat v) x.events (told_by h seat w) x.rows e.state) _ image.0 d (λ e p. inr (inl p)) image.2 (x.since k image.0 after until image.1);
        now = λ settles all whole d image. seen_as (IsShelf w.state.content) (IsState (told_by h seat w)) image.0 d (λ e is. shelf_is w.state.content w.state h seat e is) image.2 (x.settled (sym (ap (λ (c : Counts). c.broken) (counts_over w.state.content w.state h seat)) ∙ whole) image.0 image.1);
      }
    where
      shelf_is : (c : Option Stored) (s : StoreState) (h : HubState) (seat : ℕ) (e : Shelf) → IsShelf c e → IsState (knows_over c s h seat) e.state
      shelf_is None s h seat e is = is
      shelf_is (Some a) s h seat e is = ap (λ (z : Shelf). z.state) is

  -- the store is broken
  pub broken_refuses : (h : HubState) (seat : ℕ) (v w : StoreStand) (now : Option Wanting) (count : ℕ) → w.state.counts.broken ≡ Some count → TakenIn h seat v w now → Kept true (hub_stand v h seat) (Open_call role peers secure moment) (Refused (Disk count)) (hub_stand w h seat)
  broken_refuses h seat v w now count broken x =
      refused_behind h seat v w now (Disk count) x (subst (λ (o : Option ℕ). EndsSo x.events o now) broken x.ends)

  -- something is wanted
  pub wanted_refuses : (h : HubState) (seat : ℕ) (v w : StoreStand) (want : Wanting) → w.state.counts.broken ≡ None → TakenIn h seat v w (Some want) → Kept true (hub_stand v h seat) (Open_call role peers secure moment) (Refused (fault_for want)) (hub_stand w h seat)
  wanted_refuses h seat v w want whole x =
      refused_behind h seat v w (Some want) (fault_for want) x (subst (λ (o : Option ℕ). EndsSo x.events o (Some want)) whole x.ends)

  -- the take-in itself found no memory
  pub short_refuses : (h : HubState) (seat : ℕ) (v w : StoreStand) → LooksAnew h → w.state.counts.broken ≡ None → TakenIn h seat v w None → Kept true (hub_stand v h seat) (Open_call role peers secure moment) (Refused No_memory) (hub_stand w h seat)
  short_refuses h seat v w anew whole x = wanted_refuses h seat v w Memory whole (short_of_memory h seat v w anew whole x)
