-- Queueing staged files is a row that queues them with their bytes.
use Rattle.std.proofs.Common.{◌≡◌, ◌≢◌, ℕ, ◌+◌, ◌≤◌, ◌<◌, Bool, true, false, ◌==◌, if◌then◌else◌, List, [], ◌∷◌, ◌++◌, Option, Some, None, map, length, refl, sym, ◌∙◌, ap, subst, le_refl}
use Rattle.node_model.specs.declared.words.TheConstants.{MOST_RECORDS}
use Rattle.node_model.specs.Durable.{all_answered, answered_receipt, entry_map}
use Rattle.node_model.specs.Items.{Entry, EntryOf, Receipt}
use Rattle.node_model.specs.Lists.{Each}
use Rattle.node_model.specs.Node.{Record}
use Rattle.node_model.specs.Calls.{Queue_call, Queued}
use Rattle.node_model.specs.Rows.{all_by}
use Rattle.node_model.specs.SendRows.{Enqueued, QueueRow, Slot, answered_records, queued_records, taken_records}
use Rattle.node_model.specs.Stocks.{NewEntry, Sizes, StagedOf, all_queued, is_listed, queue_each, slots_of, staged_map}
use Rattle.node_model.specs.Stores.{Stored, StoreState, StoreDoes, Queue_all, Slots, queueing_records, stored_after, take_stored, with_all_queued}
use Rattle.node_model.specs.StoreWords.{IsNewBatch, WasStaged}
use Rattle.node_model.proofs.Distinct.{each_map}
use Rattle.node_model.proofs.Lists.{Each-weaker, Each-without}
use Rattle.node_model.proofs.QueuedSizes.{all_queued-map, slots-map}
use Rattle.hub_core.specs.Hubs.{HubState, HubFits, node_with}
use Rattle.hub_core.proofs.Anew.{sitting_on}
use Rattle.outbound_desk.proofs.Sittings.{queued_stays}
use Rattle.outbound_desk.specs.TakenIn.{AreDrawn}
use Rattle.outbound_desk.proofs.OneRow.{RowMade, option_twice, same_row}
use Rattle.outbound_desk.proofs.QueuedFiles.{IsStaged, enqueued, is_staged, number_drawn, numbers_few, same_records, sizes_fit, with_bytes}

numbers_stay : (answered : Option ℕ) (number : ℕ) (inbox : List Receipt) → Each (λ (r : Receipt). r.number ≢ number) inbox → Each (λ (r : Receipt). r.number ≢ number) (all_answered answered inbox)
numbers_stay None number inbox apart = apart
numbers_stay (Some n) number inbox apart =
    each_map (λ (r : Receipt). r.number ≢ number) (λ (r : Receipt). r.number ≢ number) (answered_receipt n) inbox (λ r away. go r (r.number == n) away) apart
  where
    go : (r : Receipt) (b : Bool) → r.number ≢ number → (if b then record r { answered = true } else r).number ≢ number
    go r true away = away
    go r false away = away

abbrev slots_in : List NewEntry → StoreState → List Slot
slots_in files s = slots_of files s.stock.staged s.stock.state.queue

queues : (h : HubState) (a : Stored) (s : StoreState) (taken answered : Option ℕ) (files : List NewEntry) → HubFits a s h → AreDrawn s → IsNewBatch taken answered files s → s.records + s.reserved + length (queueing_records taken answered files s) ≤ MOST_RECORDS
    → QueueRow s.seat (map (with_bytes a.stock.staged) files) taken answered (slots_in files s) (node_with a s h) (node_with (take_stored taken (stored_after (all_queued files answered) s.seat (queueing_records taken answered files s) a)) (with_all_queued taken answered files s) h)
queues h a s taken answered files f d batch room =
    let was : Each (WasStaged (map (staged_map length) a.stock.staged)) files = subst (λ (x : Sizes). Each (WasStaged x.staged) files) f.stock batch.staged in
    let all : Each (IsStaged a.stock.staged) files = Each-weaker (WasStaged (map (staged_map length) a.stock.staged)) (IsStaged a.stock.staged) (λ g w. is_staged a.stock.staged g w) files was in
    let few : Each (λ (g : NewEntry). g.number ≤ s.staged) files = Each-weaker (WasStaged s.stock.staged) (λ (g : NewEntry). g.number ≤ s.staged) (λ g w. number_drawn s.staged s.stock.staged g d.staged w) files batch.staged in
    let above : Each (λ (g : NewEntry). Each (λ (e : EntryOf ℕ). e.number < g.number) (map (entry_map length) a.stock.state.queue)) files = subst (λ (x : Sizes). Each (λ (g : NewEntry). Each (λ (e : EntryOf ℕ). e.number < g.number) x.state.queue) files) f.stock batch.above in
    let told : slots_of files a.stock.staged a.stock.state.queue ≡ slots_in files s = sym (ap (λ (x : Sizes). slots_of files x.staged x.state.queue) f.stock ∙ slots-map files a.stock.staged a.stock.state.queue) in
    let recorded : queueing_records taken answered files s ≡ queued_records (map (with_bytes a.stock.staged) files) taken answered (slots_in files s) = ap (λ (rs : List Record). rs ++ taken_records taken ++ answered_records answered) (sym (same_records a.stock.staged files (slots_in files s))) in
    let most : s.records + s.reserved + length (queued_records (map (with_bytes a.stock.staged) files) taken answered (slots_in files s)) ≤ MOST_RECORDS = subst (λ (rs : List Record). s.records + s.reserved + length rs ≤ MOST_RECORDS) recorded room in
    record {
      queue = queue_each files a.stock.staged a.stock.state.queue;
      sizes = sizes_fit a.stock.staged files all;
      queued = subst (λ (l : List Slot). Enqueued (map (with_bytes a.stock.staged) files) l a.stock.state.queue (queue_each files a.stock.staged a.stock.state.queue)) told (enqueued files a.stock.staged a.stock.state.queue all (Each-weaker (λ (g : NewEntry). Each (λ (e : EntryOf ℕ). e.number < g.number) (map (entry_map length) a.stock.state.queue)) (λ (g : NewEntry). Each (λ (e : Entry). e.number < g.number) a.stock.state.queue) (λ g less. lesser g.number a.stock.state.queue less) files above) batch.rise);
      room = most;
      staged = s.staged;
      numbers = numbers_few s.staged files a.stock.staged a.stock.state.queue few f.sound.parts.queue_staged;
      risen = le_refl _;
      few = d.few;
      after = λ i. record (node_with (take_stored taken (stored_after (all_queued files answered) s.seat (queueing_records taken answered files s) a)) (with_all_queued taken answered files s) h) { log = a.log ++ all_by s.seat (recorded i); records = s.records + length (recorded i) };
    }
  where
    lesser : (number : ℕ) (queue : List Entry) → Each (λ (e : EntryOf ℕ). e.number < number) (map (entry_map length) queue) → Each (λ (e : Entry). e.number < number) queue
    lesser number [] less = tt
    lesser number (e ∷ queue) less = (less.0, lesser number queue less.1)

pub queue_made : (h : HubState) (a : Stored) (s t : StoreState) (taken answered : Option ℕ) (files : List NewEntry) (slots : List Slot) → HubFits a s h → AreDrawn s → IsNewBatch taken answered files s → StoreDoes s (Queue_all taken answered files) (Slots slots) t → RowMade h (Queue_call (map (with_bytes a.stock.staged) files) taken answered) (Queued slots) s a t
queue_made h a s t taken answered files slots f d batch does =
    subst (λ (l : List Slot). RowMade h (Queue_call (map (with_bytes a.stock.staged) files) taken answered) (Queued l) s a t) (sym does.0)
    (same_row h (Queue_call (map (with_bytes a.stock.staged) files) taken answered) (Queued (slots_in files s)) s a (with_all_queued taken answered files s) t does.2
    (record {
      change = record {
        change = λ x. take_stored taken (stored_after (all_queued files answered) s.seat (queueing_records taken answered files s) x);
        content = option_twice (take_stored taken) (stored_after (all_queued files answered) s.seat (queueing_records taken answered files s)) s.content;
        stock = ap (all_queued files answered) f.stock ∙ sym (all_queued-map files answered a.stock);
        parts = λ p there. let fit = f.parts p there in record { marks = fit.marks; receipts = numbers_stay answered p.number a.stock.state.inbox fit.receipts };
        sittings = λ x none fits. sitting_on s (with_all_queued taken answered files s) x none refl (λ e m. (e, queued_stays files s.stock.staged s.stock.state.queue e m, refl, refl)) fits;
        seat = refl;
      };
      counts = refl;
      made = queues h a s taken answered files f d batch does.1;
      drawn = record { staged = Each-without (λ (x : StagedOf ℕ). x.number ≤ s.staged) (λ (x : StagedOf ℕ). is_listed files x) s.stock.staged d.staged; few = d.few };
    }))
