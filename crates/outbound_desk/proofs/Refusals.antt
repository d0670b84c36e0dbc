-- A call that is refused is a row that is refused: for want of place or of memory, or as the disk failed.
use Rattle.std.proofs.Common.{◌≡◌, ℕ, false, [], Option, Some, None, refl, sym, ◌∙◌, ap, le_refl, inr}
use Rattle.std.proofs.lemmas.List.{append-nil}
use Rattle.ftn_addr.proofs.CountsGrow.{increased-is}
use Rattle.ftn_addr.specs.Counts.{next_count}
use Rattle.node_model.specs.Items.{MarkOf}
use Rattle.node_model.specs.Node.{Node}
use Rattle.node_model.specs.Calls.{Call, Queue_call, Act_call, Refused, Disk, Full, No_memory, Counts, Caused, FindsFull, IsSkip, MayFindFull, TakesIn, Unmade, Logs}
use Rattle.node_model.specs.Calls as C
use Rattle.node_model.specs.Stocks.{Stock, part_in}
use Rattle.node_model.specs.Stores.{Shelf, Stored, StoreState, StoreStand, TellsOn, shelf_of}
use Rattle.hub_core.specs.Hubs.{HubState, node_with}
use Rattle.hub_core.specs.Steps.{Broke, Leaves, Stays}
use Rattle.hub_core.proofs.Breaking.{broken_known, same_but}
use Rattle.hub_core.proofs.Keeping.{leaves_as}
use Rattle.hub_core.proofs.Stepping.{stepped_fitted, stepped_known}
use Rattle.take_steps.specs.Steps.{Failed, KeepsState, Quiet, SameNode}
use Rattle.outbound_desk.proofs.OneRow.{IsIdle, OneRow, RowImages, RowPasses, stays_anew, stepped}
use Rattle.outbound_desk.proofs.QuietRows.{QuietChange, node_quiet, quiet_drawn, quiet_fits, keeps_passes}

-- the calls of a take-in may find no place, take memory, and skip nothing
may_find : (call : Call) → TakesIn call → MayFindFull call
may_find (Queue_call files taken answered) takes = tt
may_find (Act_call dest) takes = tt
may_find call takes = absurd takes

takes_memory : (call : Call) → TakesIn call → C.TakesMemory call
takes_memory (Queue_call files taken answered) takes = tt
takes_memory (Act_call dest) takes = tt
takes_memory call takes = absurd takes

no_skip : (call : Call) → TakesIn call → IsSkip call → ⊥
no_skip (Queue_call files taken answered) takes skips = skips
no_skip (Act_call dest) takes skips = skips
no_skip call takes skips = takes

unmade : (seat fulls : ℕ) (old : Node) (call : Call) (new : Node) → TakesIn call → new ≡ record old { fulls = fulls } → Unmade seat fulls old call new
unmade seat fulls old (Queue_call files taken answered) new takes is = record { staged = old.staged; risen = le_refl _; after = is }
unmade seat fulls old (Act_call dest) new takes is = is
unmade seat fulls old call new takes is = absurd takes

-- For want of place.

node_counted : (h : HubState) (a : Stored) (s t : StoreState) (fulls : ℕ) (q : QuietChange s t) → t.counts ≡ record s.counts { fulls = fulls } → node_with (q.change a) t h ≡ record (node_with a s h) { fulls = fulls }
node_counted h a s t fulls q counts =
    node_quiet h a s t q ∙ (λ i. record (node_with a s h) { faults = (counts i).faults; fulls = (counts i).fulls; broken = (counts i).broken })

pub full_row : (h : HubState) (call : Call) (old new : StoreStand) (o : IsIdle h old) → TakesIn call → QuietChange old.state new.state → new.state.counts ≡ record old.state.counts { fulls = next_count old.state.counts.fulls } → FindsFull old.state.seat (node_with o.fitted.keeps old.state h) call → RowImages h call old new
    → OneRow h call (Refused Full) old new
full_row h call old new o takes q counts finds images =
    let s = old.state in
    let t = new.state in
    let f = o.fitted in
    let next = next_count s.counts.fulls in
    let unbroken : t.counts.broken ≡ None = ap (λ (c : Counts). c.broken) counts ∙ o.whole in
    let change = quiet_fits h f.keeps s t f.fits q in
    let left = unmade s.seat next (node_with f.keeps s h) call (node_with (q.change f.keeps) t h) takes (node_counted h f.keeps s t next q counts) in
    let x = stepped h call (Refused Full) s f.keeps t change (stays_anew h s f.keeps t change o.anew) tt unbroken f.fits (o.whole, finds, left) in
    let fulls : t.counts.fulls ≡ next = ap (λ (c : Counts). c.fulls) counts in
    record {
      takes = takes;
      caused = (may_find call takes, o.whole, increased-is s.counts.fulls t.counts.fulls fulls, counts ∙ (λ i. record s.counts { fulls = sym fulls i }));
      step = stepped_known s.seat call (Refused Full) s h f t h x;
      images = images;
      fitted = λ _. stepped_fitted s.seat call (Refused Full) s h f t h x;
      drawn = λ _. quiet_drawn s t q o.drawn;
      turn = change.seat;
    }

-- For want of memory.

pub memory_row : (h : HubState) (call : Call) (old new : StoreStand) → IsIdle h old → TakesIn call → QuietChange old.state new.state → new.state.counts ≡ old.state.counts → RowImages h call old new → OneRow h call (Refused No_memory) old new
memory_row h call old new o takes q counts images =
    let s = old.state in
    let t = new.state in
    let f = o.fitted in
    let unbroken : t.counts.broken ≡ None = ap (λ (c : Counts). c.broken) counts ∙ o.whole in
    let change = quiet_fits h f.keeps s t f.fits q in
    let left = unmade s.seat s.counts.fulls (node_with f.keeps s h) call (node_with (q.change f.keeps) t h) takes (node_counted h f.keeps s t s.counts.fulls q counts) in
    let x = stepped h call (Refused No_memory) s f.keeps t change (stays_anew h s f.keeps t change o.anew) tt unbroken f.fits (o.whole, takes_memory call takes, left) in
    record {
      takes = takes;
      caused = (takes_memory call takes, o.whole, counts);
      step = stepped_known s.seat call (Refused No_memory) s h f t h x;
      images = images;
      fitted = λ _. stepped_fitted s.seat call (Refused No_memory) s h f t h x;
      drawn = λ _. quiet_drawn s t q o.drawn;
      turn = change.seat;
    }

-- The disk failed.

broken_now : {X : Type 0} (b : Option ℕ) (n : ℕ) → b ≡ Some n → b ≡ None → X
broken_now b n some none = absurd (cc)

pub disk_row : (P : Shelf → Type 0) (h : HubState) (call : Call) (old new : StoreStand) → IsIdle h old → TakesIn call → Broke P (λ p. false) old.state new.state → ((e : Shelf) → P e → RowPasses h call old e) → Leaves P old new → OneRow h call (Refused (Disk new.state.counts.faults)) old new
disk_row P h call old new o takes broke passes leaves =
    let s = old.state in
    let t = new.state in
    let broken : t.counts.broken ≡ Some t.counts.faults = ap (λ (c : Counts). c.broken) broke.counts in
    record {
      takes = takes;
      caused = (no_skip call takes, inr (o.whole, broke.rose, broke.counts));
      step = broken_known P (λ p. false) s t h h s.seat call o.whole refl o.fitted broke (λ k x hold apart sits holds. refl) passes (no_skip call takes) (same_but h s.seat);
      images = record { leaves = leaves_as P (RowPasses h call old) old new passes leaves; settled = λ w. broken_now t.counts.broken t.counts.faults broken w };
      fitted = λ w. broken_now t.counts.broken t.counts.faults broken w;
      drawn = λ w. broken_now t.counts.broken t.counts.faults broken w;
      turn = broke.seat;
    }

-- a quiet call in which the disk failed
quiet_broke : (s t : StoreState) → TellsOn SameNode s.content t.content → t.seat ≡ s.seat → Failed s.counts t.counts → Broke (KeepsState s.content) (λ p. false) s t
quiet_broke s t told seat failed = record { rose = failed.rose; counts = failed.is; content = go s.content t.content told; seat = seat }
  where
    go : (c e : Option Stored) → TellsOn SameNode c e → TellsOn (λ a b. KeepsState c (shelf_of b) × Logs s.seat a.log b.log × ((p : MarkOf ℕ) → Stays (λ x. false) s p → part_in p.number b.stock.parts ≡ part_in p.number a.stock.parts)) c e
    go None None on = tt
    go None (Some b) on = absurd on
    go (Some a) None on = absurd on
    go (Some a) (Some b) on =
        (ap (λ (x : Stock). x.state) on.stock, record { rest = []; grows = on.log ∙ sym (append-nil a.log); own = tt }, λ p stays. ap (λ (x : Stock). part_in p.number x.parts) on.stock)

pub broken_quietly : (h : HubState) (old new : StoreStand) → IsIdle h old → Quiet old new → Failed old.state.counts new.state.counts → OneRow h (Queue_call [] None None) (Refused (Disk new.state.counts.faults)) old new
broken_quietly h old new o quiet failed =
    let broke = quiet_broke old.state new.state quiet.told (ap (λ (u : StoreState). u.seat) quiet.same) failed in
    let leaves : Leaves (KeepsState old.state.content) old new = record { later = quiet.moments.later; before = quiet.moments.before; since = quiet.since } in
    disk_row (KeepsState old.state.content) h (Queue_call [] None None) old new o tt broke (keeps_passes old.state.content old.state h old.state.seat (Queue_call [] None None)) leaves
