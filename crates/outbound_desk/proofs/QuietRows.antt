-- A quiet call is a row that queues no file: the node is the same but for its counts.
use Rattle.std.proofs.Common.{◌≡◌, ℕ, ◌+◌, [], Option, Some, None, map, option_map, refl, sym, ◌∙◌, ap, subst, le_refl, arith}
use Rattle.std.proofs.lemmas.List.{append-nil}
use Rattle.node_model.specs.Lists.{Member}
use Rattle.node_model.specs.Calls.{Call, Queue_call, Queued, Counts}
use Rattle.node_model.specs.Calls as C
use Rattle.node_model.specs.SendRows.{QueueRow, No_more}
use Rattle.node_model.specs.Stocks.{Stock, Sizes, sizes}
use Rattle.node_model.specs.Stores.{Shelf, Stored, StoreState, StoreStand, TellsOn}
use Rattle.hub_core.specs.Hubs.{HubState, HubFits, PartFits, node_with, seat_over}
use Rattle.hub_core.specs.HubCalls.{ShelfPasses}
use Rattle.hub_core.proofs.Keeping.{opens_shelf}
use Rattle.take_steps.specs.Steps.{KeepsState, Quiet, SameNode}
use Rattle.hub_core.proofs.Anew.{sitting_on}
use Rattle.outbound_desk.specs.TakenIn.{AreDrawn}
use Rattle.outbound_desk.proofs.OneRow.{Change, IsIdle, OneRow, RowImages, RowMade, RowPasses, made_row, option_same}

-- what a store keeps changed so that its node is the same, and beside that its counts alone
pub record QuietChange (s t : StoreState) : Type 0 where
  pub change : Stored → Stored
  pub content : t.content ≡ option_map change s.content
  pub same : (x : Stored) → SameNode x (change x)
  pub rest : t ≡ record s { content = t.content; counts = t.counts }

pub quiet_change : (s t : StoreState) → TellsOn SameNode s.content t.content → t ≡ record s { content = t.content; counts = t.counts } → QuietChange s t
quiet_change s t told rest = let g = go s.content t.content told in record { change = g.0; content = g.1; same = g.2; rest = rest }
  where
    go : (c e : Option Stored) → TellsOn SameNode c e → (change : Stored → Stored) × (e ≡ option_map change c) × ((x : Stored) → SameNode x (change x))
    go None None on = (λ x. x, refl, λ x. record { stock = refl; log = refl })
    go (Some a) (Some b) on =
        (λ x. record b { stock = x.stock; log = x.log }, ap Some (λ i. record b { stock = on.stock i; log = on.log i }), λ x. record { stock = refl; log = refl })
    go None (Some b) on = absurd on
    go (Some a) None on = absurd on

-- where nothing but the counts changed
pub still_change : (s t : StoreState) → t ≡ record s { counts = t.counts } → QuietChange s t
still_change s t is =
    let same : t.content ≡ s.content = ap (λ (u : StoreState). u.content) is in
    record {
      change = λ x. x;
      content = same ∙ sym (option_same s.content);
      same = λ x. record { stock = refl; log = refl };
      rest = is ∙ (λ i. record s { content = sym same i; counts = t.counts });
    }

-- The node.

pub node_quiet : (h : HubState) (a : Stored) (s t : StoreState) (q : QuietChange s t) → node_with (q.change a) t h ≡ record (node_with a s h) { faults = t.counts.faults; fulls = t.counts.fulls; broken = t.counts.broken }
node_quiet h a s t q =
    let stock = (q.same a).stock in
    let log = (q.same a).log in
    ap (λ (u : StoreState). node_with (q.change a) u h) q.rest
    ∙ (λ i. record (node_with a s h) { state = (stock i).state; log = log i; seats = map (seat_over (stock i)) h.chairs; faults = t.counts.faults; fulls = t.counts.fulls; broken = t.counts.broken })

abbrev pub quiet_fits : (h : HubState) (a : Stored) (s t : StoreState) → HubFits a s h → (q : QuietChange s t) → Change h s a t
quiet_fits h a s t f q =
    let stock : t.stock ≡ s.stock = ap (λ (u : StoreState). u.stock) q.rest in
    record {
      change = q.change;
      content = q.content;
      stock = stock ∙ (f.stock ∙ ap sizes (sym (q.same a).stock));
      parts = λ p there. subst (λ (x : Stock). PartFits x.state p) (sym (q.same a).stock) (f.parts p (subst (λ (x : Sizes). Member p x.parts) stock there));
      sittings = λ x none fits. sitting_on s t x none (ap (λ (z : Sizes). z.parts) stock) (λ e m. (e, subst (λ (z : Sizes). Member e z.state.queue) (sym stock) m, refl, refl)) fits;
      seat = ap (λ (u : StoreState). u.seat) q.rest;
    }

pub quiet_drawn : (s t : StoreState) → QuietChange s t → AreDrawn s → AreDrawn t
quiet_drawn s t q d = subst AreDrawn (sym q.rest) (record { staged = d.staged; few = d.few })

-- The row.

quiet_queues : (h : HubState) (a : Stored) (s t : StoreState) (q : QuietChange s t) → t.counts ≡ s.counts → HubFits a s h → AreDrawn s → QueueRow s.seat [] None None [] (node_with a s h) (node_with (q.change a) t h)
quiet_queues h a s t q counts f d =
    let room = f.sound.places.room in
    let no_record : s.records ≡ s.records + 0 = omega arith in
    record {
      queue = a.stock.state.queue;
      sizes = tt;
      queued = No_more;
      room = omega (arith, room);
      staged = s.staged;
      numbers = f.sound.parts.queue_staged;
      risen = le_refl _;
      few = d.few;
      after = node_quiet h a s t q ∙ (λ i. record (node_with a s h) { log = sym (append-nil a.log) i; records = no_record i; faults = (counts i).faults; fulls = (counts i).fulls; broken = (counts i).broken });
    }

pub quiet_made : (h : HubState) (a : Stored) (s t : StoreState) (q : QuietChange s t) → t.counts ≡ s.counts → HubFits a s h → AreDrawn s → RowMade h (Queue_call [] None None) (Queued []) s a t
quiet_made h a s t q counts f d =
    record { change = quiet_fits h a s t f q; counts = counts; made = quiet_queues h a s t q counts f d; drawn = quiet_drawn s t q d }

-- What a stop leaves.

pub keeps_passes : (c : Option Stored) (s : StoreState) (h : HubState) (seat : ℕ) (call : Call) (d : Shelf) → KeepsState c d → ShelfPasses c s h seat call d
keeps_passes None s h seat call d is = is
keeps_passes (Some a) s h seat call d is = C.Before_it is

pub quiet_images : (h : HubState) (call : Call) (old new : StoreStand) → Quiet old new → RowImages h call old new
quiet_images h call old new q = record {
  leaves = record {
    later = q.moments.later;
    before = q.moments.before;
    since = λ k d after until image. opens_shelf (KeepsState old.state.content) (RowPasses h call old) (keeps_passes old.state.content old.state h old.state.seat call) d (q.since k d after until image);
  };
  settled = q.now;
}

pub quiet_row : (h : HubState) (old new : StoreStand) → IsIdle h old → Quiet old new → new.state.counts ≡ old.state.counts → OneRow h (Queue_call [] None None) (Queued []) old new
quiet_row h old new o quiet counts =
    let q = quiet_change old.state new.state quiet.told quiet.same in
    made_row h (Queue_call [] None None) (Queued []) old new o tt tt tt (quiet_made h o.fitted.keeps old.state new.state q counts o.fitted.fits o.drawn) (quiet_images h (Queue_call [] None None) old new quiet)
