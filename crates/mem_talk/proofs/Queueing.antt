-- A store that queues a file fits a hub still.
use Rattle.std.proofs.Common.{◌≡◌, ℕ, zero, suc, ◌+◌, ◌≤◌, ◌<◌, ◌==◌, false, List, [], ◌∷◌, ◌++◌, Option, Some, None, length, map, option_map, refl, sym, ◌∙◌, ap, subst, arith}
use Rattle.ftn_addr.specs.Files.{is_same}
use Rattle.node_model.specs.declared.words.TheConstants.{MOST_RECORDS}
use Rattle.node_model.specs.Items.{EntryOf, Entry}
use Rattle.node_model.specs.Lists.{Each}
use Rattle.node_model.specs.Durable.{entry_map}
use Rattle.node_model.specs.Node.{Node, Settings, Logged, seat_in, hold_in, claim_in}
use Rattle.node_model.specs.SendRows.{Slot}
use Rattle.node_model.specs.Sound.{same_entry, same_number, FitsKey, SoundQueue, Sound}
use Rattle.node_model.specs.Stocks.{NewEntry, StagedOf, Stock, Sizes, sizes, staged_map, staged_in, queued_as, queue_unless, entry_with, all_queued, file_staged, is_listed}
use Rattle.node_model.specs.StoreWords.{IsNewBatch}
use Rattle.node_model.specs.Stores.{Stored, StoreState, StoreStand, StoreKept, Stage, Queue_all, Staged_as, Slots, IfTold, stored_after, take_stored, with_staged, with_all_queued, queueing_records}
use Rattle.node_model.proofs.Distinct.{find_none, distinct_push, apart_numbers}
use Rattle.node_model.proofs.Lists.{Each-append, Each-weaker, is_same_flip}
use Rattle.node_model.proofs.StockMaps.{first-map, without-map, file_staged-map}
use Rattle.hub_core.specs.Hubs.{HubFits, Fitted, node_with}
use Rattle.hub_core.specs.Opening.{no_seats, IsWhole}
use Rattle.hub_core.proofs.Closing.{no_sitting, not_some}

none_at : (k : ℕ) → (seat_in [] k).session ≡ None
none_at zero = refl
none_at (suc k) = refl

-- a node without seats whose queue is another
requeued_sound : (n : Node) (q : List Entry) (log : List Logged) (records staged : ℕ) → n.seats ≡ [] → SoundQueue q → Each (λ (e : Entry). e.number ≤ staged) q → records + n.reserved ≤ MOST_RECORDS → Sound n → Sound (record n { seats = []; state = record n.state { queue = q }; log = log; records = records; staged = staged })
requeued_sound n q log records staged unseated queue numbers room s =
    let session = λ (k : ℕ). (seat_in [] k).session in
    let hold = λ (k : ℕ). ap hold_in (none_at k) in
    record {
      queue = queue;
      inbox = record { once = s.inbox.once; not_refused = s.inbox.not_refused; refused_once = s.inbox.refused_once; marks_once = s.inbox.marks_once; marks_new = s.inbox.marks_new; mark_sizes = s.inbox.mark_sizes; sizes = s.inbox.sizes };
      sessions = record {
        numbers = λ k x at. not_some (session k) x (none_at k) at;
        apart = λ j k x y a b same. not_some (session j) x (none_at j) a;
      };
      claims = record {
        each = λ k number x at is. not_some (session k) x (none_at k) at;
        apart = λ j k number a b. not_some (claim_in (session j)) number (ap claim_in (none_at j)) a;
      };
      holds = record {
        each = λ k x h at is. not_some (session k) x (none_at k) at;
        apart = λ j k g h a b same. not_some (hold_in (session j)) g (hold j) a;
      };
      parts = record {
        marks = s.parts.marks;
        receipts = s.parts.receipts;
        apart = s.parts.apart;
        held_mark = λ k h at. not_some (hold_in (session k)) h (hold k) at;
        held_receipt = λ k h at. not_some (hold_in (session k)) h (hold k) at;
        held_apart = λ j k g h a b same. not_some (hold_in (session j)) g (hold j) a;
        marks_drawn = s.parts.marks_drawn;
        receipts_drawn = s.parts.receipts_drawn;
        holds_drawn = λ k h at. not_some (hold_in (session k)) h (hold k) at;
        queue_staged = numbers;
        drawn_few = s.parts.drawn_few;
      };
      places = record {
        claims = λ k number x at is. not_some (session k) x (none_at k) at;
        holds = λ k x h at is. not_some (session k) x (none_at k) at;
        all = omega arith;
        room = room;
      };
    }

-- A file is staged.

staged_fits : (settings : Settings) (a : Stored) (s : StoreState) (bytes : List ℕ) → HubFits a s (no_seats settings) → HubFits (stored_after (file_staged (s.staged + 1) bytes) s.seat [] a) (with_staged bytes s) (no_seats settings)
staged_fits settings a s bytes f =
    let room = f.sound.places.room in
    record {
      stock = ap (λ (t : Sizes). file_staged (s.staged + 1) (length bytes) t) f.stock ∙ sym (file_staged-map length (s.staged + 1) bytes a.stock);
      sittings = λ k x at. not_some _ x (no_sitting settings k) at;
      parts = f.parts;
      sound = requeued_sound (node_with a s (no_seats settings)) a.stock.state.queue (a.log ++ []) (s.records + 0) (s.staged + 1) refl f.sound.queue (Each-weaker (λ (e : Entry). e.number ≤ s.staged) (λ (e : Entry). e.number ≤ s.staged + 1) (λ e less. omega arith) a.stock.state.queue f.sound.parts.queue_staged) (omega (arith, room)) f.sound;
    }

-- A staged file is queued.

map-append_one : {A B : Type 0} (f : A → B) (xs : List A) (y : A) → map f (xs ++ y ∷ []) ≡ map f xs ++ f y ∷ []
map-append_one f [] y = refl
map-append_one f (x ∷ xs) y = ap (λ zs. f x ∷ zs) (map-append_one f xs y)

unless-map : (f : NewEntry) (o : Option Entry) (x : Option (StagedOf (List ℕ))) (queue : List Entry) → queue_unless f (option_map (entry_map length) o) (option_map (staged_map length) x) (map (entry_map length) queue) ≡ map (entry_map length) (queue_unless f o x queue)
unless-map f (Some e) x queue = refl
unless-map f None None queue = refl
unless-map f None (Some x) queue = sym (map-append_one (entry_map length) queue (entry_with f x.content))

-- the queue that comes, as it is told without the bytes
queue-map : (f : NewEntry) (st : Stock) → queue_unless f (queued_as f.dest f.key (sizes st).state.queue) (staged_in f.number (sizes st).staged) (sizes st).state.queue ≡ map (entry_map length) (queue_unless f (queued_as f.dest f.key st.state.queue) (staged_in f.number st.staged) st.state.queue)
queue-map f st =
    ap (λ (o : Option (EntryOf ℕ)). queue_unless f o (staged_in f.number (sizes st).staged) (sizes st).state.queue) (first-map (entry_map length) (λ (e : EntryOf ℕ). is_same f.dest f.key e.dest e.key) st.state.queue)
    ∙ ap (λ (x : Option (StagedOf ℕ)). queue_unless f (option_map (entry_map length) (queued_as f.dest f.key st.state.queue)) x (sizes st).state.queue) (first-map (staged_map length) (λ (x : StagedOf ℕ). x.number == f.number) st.staged)
    ∙ unless-map f (queued_as f.dest f.key st.state.queue) (staged_in f.number st.staged) st.state.queue

queued-map : (f : NewEntry) (st : Stock) → all_queued (f ∷ []) None (sizes st) ≡ sizes (all_queued (f ∷ []) None st)
queued-map f st =
    let queue = queue-map f st in
    let staged = without-map (staged_map length) (λ (x : StagedOf ℕ). is_listed (f ∷ []) x) st.staged in
    λ i. record (sizes st) { state = record (sizes st).state { queue = queue i }; staged = staged i }

record Queues (f : NewEntry) (staged : ℕ) (queue : List Entry) : Type 0 where
  pub sound : SoundQueue queue
  pub numbers : Each (λ (e : Entry). e.number ≤ staged) queue

queues : (f : NewEntry) (staged : ℕ) (queue : List Entry) (o : Option Entry) (x : Option (StagedOf (List ℕ))) → queued_as f.dest f.key queue ≡ o → ((y : StagedOf (List ℕ)) → x ≡ Some y → length y.content ≡ f.key.size) → Each (λ (e : Entry). e.number < f.number) queue → f.number ≤ staged → SoundQueue queue → Each (λ (e : Entry). e.number ≤ staged) queue → Queues f staged (queue_unless f o x queue)
queues f staged queue (Some e) x at size above few q numbers = record { sound = q; numbers = numbers }
queues f staged queue None None at size above few q numbers = record { sound = q; numbers = numbers }
queues f staged queue None (Some x) at size above few q numbers =
    record {
      sound = record {
        entries = distinct_push same_entry queue (entry_with f x.content) q.entries (Each-weaker (λ (e : Entry). is_same f.dest f.key e.dest e.key ≡ false) (λ (e : Entry). is_same e.dest e.key f.dest f.key ≡ false) (λ e a. is_same_flip f.dest f.key e.dest e.key a) queue (find_none (λ (e : Entry). is_same f.dest f.key e.dest e.key) queue at));
        numbers = distinct_push same_number queue (entry_with f x.content) q.numbers (Each-weaker (λ (e : Entry). e.number < f.number) (λ (e : Entry). (e.number == f.number) ≡ false) (λ e a. apart_numbers e.number f.number (λ same. omega (arith, a, same))) queue above);
        sizes = Each-append (λ (e : Entry). FitsKey e.key e.body) queue (entry_with f x.content ∷ []) q.sizes (size x refl, tt);
      };
      numbers = Each-append (λ (e : Entry). e.number ≤ staged) queue (entry_with f x.content ∷ []) numbers (few, tt);
    }

each_unmapped : {A B : Type 0} (f : A → B) (Q : B → Type 0) (xs : List A) → Each Q (map f xs) → Each (λ x. Q (f x)) xs
each_unmapped f Q [] e = tt
each_unmapped f Q (x ∷ xs) e = (e.0, each_unmapped f Q xs e.1)

-- what was staged has as many bytes as its key says
staged_size : (f : NewEntry) (x : Option (StagedOf (List ℕ))) (z : StagedOf ℕ) → option_map (staged_map length) x ≡ Some z → z.content ≡ f.key.size → (y : StagedOf (List ℕ)) → x ≡ Some y → length y.content ≡ f.key.size
staged_size f None z at size y is = absurd (cc)
staged_size f (Some x) z at size y is =
    let same : x ≡ y = cc in
    let seen : staged_map length x ≡ z = cc in
    ap (λ (y : StagedOf (List ℕ)). length y.content) (sym same) ∙ ap (λ (z : StagedOf ℕ). z.content) seen ∙ size

-- the settings, what the store keeps, and the file
queued_fits : (settings : Settings) (a : Stored) (s : StoreState) (f : NewEntry) → f.number ≤ s.staged → IsNewBatch None None (f ∷ []) s → s.records + s.reserved + length (queueing_records None None (f ∷ []) s) ≤ MOST_RECORDS → HubFits a s (no_seats settings) → HubFits (take_stored None (stored_after (all_queued (f ∷ []) None) s.seat (queueing_records None None (f ∷ []) s) a)) (with_all_queued None None (f ∷ []) s) (no_seats settings)
queued_fits settings a s f few batch room fits =
    let above = each_unmapped (entry_map length) (λ (e : EntryOf ℕ). e.number < f.number) a.stock.state.queue (subst (λ (t : Sizes). Each (λ (e : EntryOf ℕ). e.number < f.number) t.state.queue) fits.stock batch.above.0) in
    let was = batch.staged.0 in
    let found = sym (first-map (staged_map length) (λ (x : StagedOf ℕ). x.number == f.number) a.stock.staged) ∙ (ap (λ (t : Sizes). staged_in f.number t.staged) (sym fits.stock) ∙ was.1) in
    let q = queues f s.staged a.stock.state.queue (queued_as f.dest f.key a.stock.state.queue) (staged_in f.number a.stock.staged) refl (staged_size f (staged_in f.number a.stock.staged) was.0 found was.2) above few fits.sound.queue fits.sound.parts.queue_staged in
    record {
      stock = ap (λ (t : Sizes). all_queued (f ∷ []) None t) fits.stock ∙ queued-map f a.stock;
      sittings = λ k x at. not_some _ x (no_sitting settings k) at;
      parts = λ p there. let q = fits.parts p there in record { marks = q.marks; receipts = q.receipts };
      sound = requeued_sound (node_with a s (no_seats settings)) _ _ _ s.staged refl q.sound q.numbers (omega (arith, room)) fits.sound;
    }

-- What is told after a change is the change of what was told.
told_after : (c : Option Stored) (a : Stored) (g : Stored → Stored) → IfTold c (λ b. b ≡ a) → IfTold (option_map g c) (λ b. b ≡ g a)
told_after None a g told = tt
told_after (Some b) a g told = ap g told

told_twice : (c : Option Stored) (a : Stored) (g h : Stored → Stored) → IfTold c (λ b. b ≡ a) → IfTold (option_map h (option_map g c)) (λ b. b ≡ h (g a))
told_twice None a g h told = tt
told_twice (Some b) a g h told = ap (λ b. h (g b)) told

-- a file that is staged and then queued, alone
pub queued_whole : (u v w : StoreStand) (bytes : List ℕ) (number : ℕ) (f : NewEntry) (slots : List Slot) → u.state.counts.broken ≡ None → v.state.counts.broken ≡ None → f.number ≡ number → StoreKept u (Stage bytes) (Staged_as number) v → IsNewBatch None None (f ∷ []) v.state → StoreKept v (Queue_all None None (f ∷ [])) (Slots slots) w → ((settings : Settings) → IsWhole u (no_seats settings)) → (settings : Settings) → IsWhole w (no_seats settings)
queued_whole u v w bytes number f slots first second same staged batch queued whole settings =
    let x = (whole settings).fitted first in
    let s = u.state in
    let y : Fitted (with_staged bytes s) (no_seats settings) = record { keeps = stored_after (file_staged (s.staged + 1) bytes) s.seat [] x.keeps; tells = told_after s.content x.keeps _ x.tells; fits = staged_fits settings x.keeps s bytes x.fits } in
    let z : Fitted v.state (no_seats settings) = subst (λ (t : StoreState). Fitted t (no_seats settings)) (sym staged.made.2) y in
    let drawn : f.number ≡ s.staged + 1 = same ∙ staged.made.0 in
    let risen : v.state.staged ≡ s.staged + 1 = ap (λ (t : StoreState). t.staged) staged.made.2 in
    let few : f.number ≤ v.state.staged = omega (arith, drawn, risen) in
    let room = queued.made.1 in
    let last : Fitted (with_all_queued None None (f ∷ []) v.state) (no_seats settings) = record { keeps = take_stored None (stored_after (all_queued (f ∷ []) None) v.state.seat (queueing_records None None (f ∷ []) v.state) z.keeps); tells = told_twice v.state.content z.keeps _ _ z.tells; fits = queued_fits settings z.keeps v.state f few batch room z.fits } in
    record {
      fitted = λ still. subst (λ (t : StoreState). Fitted t (no_seats settings)) (sym queued.made.2) last;
      settled = queued.now;
    }
