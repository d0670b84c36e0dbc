-- A store in which a file is staged and queued alone fits a new hub, as it did before.
use Rattle.std.proofs.Common.{◌≡◌, ℕ, zero, suc, ◌+◌, ◌≤◌, ◌<◌, false, ◌==◌, List, [], ◌∷◌, ◌++◌, Option, Some, None, refl, sym, ◌∙◌, ap, subst, arith, length, map, option_map}
use Rattle.ftn_addr.specs.Files.{is_same}
use Rattle.node_model.specs.declared.words.TheConstants.{MOST_RECORDS}
use Rattle.node_model.specs.Items.{Entry, EntryOf}
use Rattle.node_model.specs.Lists.{Each}
use Rattle.node_model.specs.Durable.{entry_map}
use Rattle.node_model.specs.Node.{Settings, session_at}
use Rattle.node_model.specs.SendRows.{Slot}
use Rattle.node_model.specs.Sound.{Sound, SoundQueue, FitsKey, same_entry, same_number}
use Rattle.node_model.specs.Stocks.{NewEntry, StagedOf, staged_map, sizes, entry_with, queued_as, queue_unless, staged_in, file_staged, all_queued}
use Rattle.node_model.specs.Stores.{Stored, StoreState, StoreStand, StoreKept, IfTold, Stage, Staged_as, Queue_all, Slots, stored_after, take_stored, queueing_records, with_staged, with_all_queued}
use Rattle.node_model.specs.StoreWords.{IsNewBatch, WasStaged}
use Rattle.node_model.proofs.Distinct.{apart_numbers, distinct_push, find_none}
use Rattle.node_model.proofs.Lists.{Each-append, Each-weaker, is_same_flip}
use Rattle.node_model.proofs.Queueing.{store_queue}
use Rattle.node_model.proofs.Seats.{StoreFits, fits, sound}
use Rattle.node_model.proofs.StockMaps.{file_staged-map, first-map}
use Rattle.node_model.proofs.QueuedSizes.{all_queued-map}
use Rattle.hub_core.specs.Hubs.{node_with, sitting_at, Fitted}
use Rattle.hub_core.specs.Opening.{no_seats, IsWhole}
use Rattle.hub_core.proofs.Closing.{no_sitting, not_some}

none_at : (settings : Settings) (a : Stored) (s : StoreState) (k : ℕ) → session_at (node_with a s (no_seats settings)) k ≡ None
none_at settings a s zero = refl
none_at settings a s (suc k) = refl

-- with no seats, a node is sound where its store is
seatless_sound : (settings : Settings) (a : Stored) (s : StoreState) → StoreFits a.stock.state s.staged s.drawn → s.records + s.reserved ≤ MOST_RECORDS → Sound (node_with a s (no_seats settings))
seatless_sound settings a s store room =
    let n = node_with a s (no_seats settings) in
    sound n (record {
      store = store;
      seats = record {
        each = λ k x at. not_some (session_at n k) x (none_at settings a s k) at;
        pairs = λ j k x y apart at other. not_some (session_at n j) x (none_at settings a s j) at;
      };
      all = omega arith;
      room = room;
    })

told_after : (f : Stored → Stored) (content : Option Stored) (keeps : Stored) → IfTold content (λ b. b ≡ keeps) → IfTold (option_map f content) (λ b. b ≡ f keeps)
told_after f None keeps told = tt
told_after f (Some b) keeps told = ap f told

-- Staging.

staged_fitted : (settings : Settings) (bytes : List ℕ) (s : StoreState) → Fitted s (no_seats settings) → Fitted (with_staged bytes s) (no_seats settings)
staged_fitted settings bytes s f =
    let g : Stored → Stored = stored_after (file_staged (s.staged + 1) bytes) s.seat [] in
    let d = f.keeps.stock.state in
    let old = fits (node_with f.keeps s (no_seats settings)) f.fits.sound in
    let numbers : Each (λ (e : Entry). e.number ≤ s.staged + 1) d.queue = Each-weaker (λ (e : Entry). e.number ≤ s.staged) (λ (e : Entry). e.number ≤ s.staged + 1) (λ e few. omega (arith, few)) d.queue old.store.queue_staged in
    record {
      keeps = g f.keeps;
      tells = told_after g s.content f.keeps f.tells;
      fits = record {
        stock = ap (file_staged (s.staged + 1) (length bytes)) f.fits.stock ∙ sym (file_staged-map length (s.staged + 1) bytes f.keeps.stock);
        sittings = λ k x at. not_some (sitting_at (no_seats settings) k) x (no_sitting settings k) at;
        parts = f.fits.parts;
        sound = seatless_sound settings (g f.keeps) (with_staged bytes s) (store_queue d d.queue s.staged (s.staged + 1) s.drawn old.store.queue numbers old.store) (omega (arith, old.room));
      };
    }

pub staged_whole : (settings : Settings) (w v : StoreStand) (bytes : List ℕ) (number : ℕ) → w.state.counts.broken ≡ None → StoreKept w (Stage bytes) (Staged_as number) v → IsWhole w (no_seats settings) → IsWhole v (no_seats settings)
staged_whole settings w v bytes number unbroken kept whole = record {
  fitted = λ _. subst (λ (s : StoreState). Fitted s (no_seats settings)) (sym kept.made.2) (staged_fitted settings bytes w.state (whole.fitted unbroken));
  settled = kept.now;
}

-- Queueing.

fresh_sound : (f : NewEntry) (bytes : List ℕ) (queue : List Entry) → length bytes ≡ f.key.size → queued_as f.dest f.key queue ≡ None → Each (λ (e : Entry). e.number < f.number) queue → SoundQueue queue → SoundQueue (queue ++ entry_with f bytes ∷ [])
fresh_sound f bytes queue size none less q =
    record {
      entries = distinct_push same_entry queue (entry_with f bytes) q.entries (Each-weaker (λ (e : Entry). is_same f.dest f.key e.dest e.key ≡ false) (λ (e : Entry). is_same e.dest e.key f.dest f.key ≡ false) (λ e a. is_same_flip f.dest f.key e.dest e.key a) queue (find_none (λ (e : Entry). is_same f.dest f.key e.dest e.key) queue none));
      numbers = distinct_push same_number queue (entry_with f bytes) q.numbers (Each-weaker (λ (e : Entry). e.number < f.number) (λ (e : Entry). (e.number == f.number) ≡ false) (λ e a. apart_numbers e.number f.number (λ same. omega (arith, a, same))) queue less);
      sizes = Each-append (λ (e : Entry). FitsKey e.key e.body) queue (entry_with f bytes ∷ []) q.sizes (size, tt);
    }

-- the queue is sound with one file more, whose number is the greatest
record QueueFits (staged : ℕ) (queue : List Entry) : Type 0 where
  pub sound : SoundQueue queue
  pub numbers : Each (λ (e : Entry). e.number ≤ staged) queue

unless_fits : (f : NewEntry) (staged : ℕ) (o : Option Entry) (x : Option (StagedOf (List ℕ))) (size : Option (StagedOf ℕ)) (queue : List Entry) → queued_as f.dest f.key queue ≡ o → option_map (staged_map length) x ≡ size → ((y : StagedOf ℕ) → size ≡ Some y → y.content ≡ f.key.size) → f.number ≤ staged → Each (λ (e : Entry). e.number < f.number) queue → QueueFits staged queue → QueueFits staged (queue_unless f o x queue)
unless_fits f staged (Some e) x size queue is sized all few less q = q
unless_fits f staged None None size queue is sized all few less q = q
unless_fits f staged None (Some y) size queue is sized all few less q =
    record {
      sound = fresh_sound f y.content queue (all (staged_map length y) (sym sized)) is less q.sound;
      numbers = Each-append (λ (e : Entry). e.number ≤ staged) queue (entry_with f y.content ∷ []) q.numbers (few, tt);
    }

all_lesser : (number : ℕ) (queue : List Entry) → Each (λ (e : EntryOf ℕ). e.number < number) (map (entry_map length) queue) → Each (λ (e : Entry). e.number < number) queue
all_lesser number [] less = tt
all_lesser number (e ∷ queue) less = (less.0, all_lesser number queue less.1)

was_staged : (f : NewEntry) (staged : List (StagedOf ℕ)) (y : StagedOf ℕ) → WasStaged staged f → staged_in f.number staged ≡ Some y → y.content ≡ f.key.size
was_staged f staged y was is = ap (λ (x : StagedOf ℕ). x.content) (inside (sym is ∙ was.1)) ∙ was.2
  where
    inside : {x z : StagedOf ℕ} → Some x ≡ Some z → x ≡ z
    inside e = cc

queued_fitted : (settings : Settings) (f : NewEntry) (s : StoreState) → IsNewBatch None None (f ∷ []) s → f.number ≤ s.staged → s.records + s.reserved + length (queueing_records None None (f ∷ []) s) ≤ MOST_RECORDS → Fitted s (no_seats settings) → Fitted (with_all_queued None None (f ∷ []) s) (no_seats settings)
queued_fitted settings f s batch few room fitted =
    let a = fitted.keeps in
    let stock = fitted.fits.stock in
    let g : Stored → Stored = stored_after (all_queued (f ∷ []) None) s.seat (queueing_records None None (f ∷ []) s) in
    let old = fits (node_with a s (no_seats settings)) fitted.fits.sound in
    let d = a.stock.state in
    let less = all_lesser f.number d.queue (subst (λ z. Each (λ (e : EntryOf ℕ). e.number < f.number) z.state.queue) stock batch.above.0) in
    let was = subst (λ z. WasStaged z.staged f) stock batch.staged.0 in
    let q = unless_fits f s.staged (queued_as f.dest f.key d.queue) (staged_in f.number a.stock.staged) (staged_in f.number (sizes a.stock).staged) d.queue refl (sym (first-map (staged_map length) (λ (y : StagedOf ℕ). y.number == f.number) a.stock.staged)) (λ y is. was_staged f (sizes a.stock).staged y was is) few less (record { sound = old.store.queue; numbers = old.store.queue_staged }) in
    record {
      keeps = take_stored None (g a);
      tells = told_after (take_stored None) (option_map g s.content) (g a) (told_after g s.content a fitted.tells);
      fits = record {
        stock = ap (all_queued (f ∷ []) None) stock ∙ sym (all_queued-map (f ∷ []) None a.stock);
        sittings = λ k x at. not_some (sitting_at (no_seats settings) k) x (no_sitting settings k) at;
        parts = λ p there. let h = fitted.fits.parts p there in record { marks = h.marks; receipts = h.receipts };
        sound = seatless_sound settings (take_stored None (g a)) (with_all_queued None None (f ∷ []) s) (store_queue d (g a).stock.state.queue s.staged s.staged s.drawn q.sound q.numbers old.store) (omega (arith, room));
      };
    }

pub queued_whole : (settings : Settings) (w v : StoreStand) (f : NewEntry) (slots : List Slot) → w.state.counts.broken ≡ None → IsNewBatch None None (f ∷ []) w.state → f.number ≤ w.state.staged → StoreKept w (Queue_all None None (f ∷ [])) (Slots slots) v → IsWhole w (no_seats settings) → IsWhole v (no_seats settings)
queued_whole settings w v f slots unbroken batch few kept whole = record {
  fitted = λ _. subst (λ (s : StoreState). Fitted s (no_seats settings)) (sym kept.made.2) (queued_fitted settings f w.state batch few kept.made.1 (whole.fitted unbroken));
  settled = kept.now;
}
