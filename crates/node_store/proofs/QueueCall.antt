-- Queueing staged files together, whole.
use Rattle.std.proofs.Common.{◌≡◌, ℕ, ◌+◌, ◌<◌, ◌≤◌, List, [], ◌∷◌, ◌++◌, length, map, Option, Some, None, Bool, true, false, refl, sym, ◌∙◌, ap, subst, arith}
use Rattle.std.specs.Prelude.{option_map, option_and_then, if◌then◌else◌}
use Rattle.std.specs.List.{AllByRecursion}
use Rattle.std.proofs.lemmas.List.{length-map}
use Rattle.disk_model.specs.World.{World}
use Rattle.disk_model.specs.Changes.{Every, Only}
use Rattle.disk_model.specs.Moments.{Now, Leaves}
use Rattle.ftn_addr.specs.Counts.{Increased}
use Rattle.ledger_file.specs.Ledger.{ledger_name, LedgerIs}
use Rattle.ledger_rec.specs.Fold.{State, fold_all, new_entry}
use Rattle.ledger_rec.specs.Items.{Entry}
use Rattle.ledger_rec.specs.Payloads.{fold_of}
use Rattle.ledger_rec.specs.Record.{NewFileText, RecordText}
use Rattle.ledger_rec.specs.Spelling.{AreRecords, spelling}
use Rattle.node_model.specs.declared.store.StoreFault.TheVariants.{Disk}
use Rattle.node_model.specs.declared.words.TheConstants.{MOST_RECORDS}
use Rattle.node_model.specs.Durable.{with_queued}
use Rattle.node_model.specs.Items as N
use Rattle.node_model.specs.Lists.{Each}
use Rattle.node_model.specs.Stocks.{Stock, NewEntry, queue_each, all_queued}
use Rattle.node_model.specs.StoreStates.{Shelf, shelf_of, StoreState, stored_after}
use Rattle.node_model.specs.Stores.{StoreKept, Queue_all, Slots, Refuses, IsShelf, with_take, take_stored, with_all_queued, queueing_records}
use Rattle.node_model.specs.StoreWords.{IsNewBatch}
use Rattle.node_model.proofs.Lists.{some_inj, off}
use Rattle.node_store.specs.Books.{Books, IsBooks}
use Rattle.node_store.specs.Contents.{entry_by}
use Rattle.node_store.specs.Planned.{Adds, AllSynced, fresh_in, slots_in, IsBatched}
use Rattle.node_store.specs.Stored.{Memory, told_in, sizes_in, staged_by, stored_in, state_of, IsMemory, IsSound}
use Rattle.node_store.specs.Worlds.{contents_in, durable_in, shelf_in, takes_in, outside_in, gift_told, HasFiles}
use Rattle.node_store.proofs.AppendCall.{IsAppending, appended_failed, appended_now, appended_kept}
use Rattle.node_store.proofs.AppendTold.{stored_only, breaks_same}
use Rattle.node_store.proofs.BatchFollows.{IsQueued, batch_follows}
use Rattle.node_store.proofs.Calls.{standing}
use Rattle.node_store.proofs.Mirrors.{map-append}
use Rattle.node_store.proofs.Positive.{some_fold}
use Rattle.node_store.proofs.QueueKeeps.{HasNew, new_there, new_seen, files_queued, memory_queued, bodies_queued, all_some}
use Rattle.node_store.proofs.QueueTold.{HasPut, all_put, unstaged, batch_of, batch_noted, queue_seen, slots_seen, durable_queued, stored_batched, batched_told}
use Rattle.node_store.specs.Names.{in_name}
use Rattle.node_store.proofs.NameLaws.{in_not_ledger}

-- What a batch is asked for, as the fold sees it.
pub record IsAsked (taken request : Option ℕ) (fs : List NewEntry) (m : Memory) : Type 0 where
  pub put : Each (HasPut m.staged) fs
  pub state : State
  pub folds : fold_all m.books.folding.state (batch_of taken request fs m.books.folding.state.queue) ≡ Some state
  pub queued : IsQueued taken request fs m.books.folding.state state

above_seen : (tells : Bool) (w : World) (given : List ℕ) (f : NewEntry) (q : List Entry) → Each (λ (e : N.EntryOf ℕ). e.number < f.number) (map (entry_by (sizes_in tells w given)) q) → AllByRecursion (λ (e : Entry). e.number < f.number) q
above_seen tells w given f [] all = tt
above_seen tells w given f (e ∷ es) all = (all.0, above_seen tells w given f es all.1)

all_above : (tells : Bool) (w : World) (given : List ℕ) (fs : List NewEntry) (q : List Entry) → Each (λ (f : NewEntry). Each (λ (e : N.EntryOf ℕ). e.number < f.number) (map (entry_by (sizes_in tells w given)) q)) fs → Each (λ (f : NewEntry). AllByRecursion (λ (e : Entry). e.number < f.number) q) fs
all_above tells w given [] q all = tt
all_above tells w given (f ∷ fs) q all = (above_seen tells w given f q all.0, all_above tells w given fs q all.1)

pub asked : (tells : Bool) (w : World) (faults : ℕ) (m : Memory) (taken request : Option ℕ) (fs : List NewEntry) → IsMemory m → IsNewBatch taken request fs (state_of tells w faults m) → IsAsked taken request fs m
asked tells w faults m taken request fs is new =
    let c = sizes_in tells w m.given in
    let put = all_put tells w m.given m.staged fs new.staged in
    let s = m.books.folding.state in
    let f = batch_follows c s taken request fs new.rise (all_some m.last_staged s m.staged fs is.staged put) (all_above tells w m.given fs s.queue new.above) new.take (some_fold m.books.payloads s is.books.folds) new.request in
    record { put = put; state = f.0; folds = f.1; queued = f.2 }

-- the slots and the records are those that the store's clause names
module _ (tells : Bool) (w : World) (faults : ℕ) (m : Memory) (taken request : Option ℕ) (fs : List NewEntry) (put : Each (HasPut m.staged) fs) where
  pub slots_are : slots_in fs m.books.folding.state.queue ≡ Rattle.node_model.specs.Stocks.slots_of fs (state_of tells w faults m).stock.staged (state_of tells w faults m).stock.state.queue
  slots_are = sym (slots_seen (sizes_in tells w m.given) m.staged fs m.books.folding.state.queue put)

  pub count_is : length (queueing_records taken request fs (state_of tells w faults m)) ≡ length (map spelling (batch_of taken request fs m.books.folding.state.queue))
  count_is =
      ap (λ l. length (Rattle.node_model.specs.Stocks.entry_records fs l ++ Rattle.node_model.specs.SendRows.taken_records taken ++ Rattle.node_model.specs.SendRows.answered_records request)) (sym slots_are)
      ∙ ap length (batch_noted taken request fs m.books.folding.state.queue)
      ∙ length-map (batch_of taken request fs m.books.folding.state.queue) Rattle.node_store.specs.Logs.noted ∙ sym (length-map (batch_of taken request fs m.books.folding.state.queue) spelling)

-- what outlives a stop after the batch
abbrev pub shelf_queued : Option ℕ → Option ℕ → List N.Entry → Shelf → Shelf
shelf_queued taken request new d = record d { state = with_queued (d.state.queue ++ new) request d.state; recorded = with_take taken d.recorded }

-- the whole call
module _ {D : Type 0} (tells : Bool) (content : D → World) (files : D → World → Type 0) (faults moment : D → ℕ) (images : D → ℕ → World → Type 0) (old new : D) (m : Memory) (taken request : Option ℕ) (fs : List NewEntry)
    (sound : IsSound tells content moment images old m) (whole : m.broken ≡ None) (reads : (d : D) (w : World) → files d w → (tells ≡ true) × (w ≡ content d)) (ask : IsAsked taken request fs m)
    (records : AreRecords (batch_of taken request fs m.books.folding.state.queue)) (goes_on : ((ps : List (List ℕ)) (rs : List RecordText) → AreRecords rs → fold_of (ps ++ map spelling rs) ≡ option_and_then (λ s. fold_all s rs) (fold_of ps)))
    (run : Leaves moment images (Adds (AllSynced (files old) (fresh_in fs m.books.folding.state.queue)) m.books.payloads (map spelling (batch_of taken request fs m.books.folding.state.queue))) old new)
    (only : tells ≡ true → Only ledger_name (content old) (content new)) where
  abbrev s : State
  s = m.books.folding.state

  abbrev fresh : List NewFileText
  fresh = fresh_in fs s.queue

  abbrev rs : List RecordText
  rs = batch_of taken request fs s.queue

  abbrev new_items : List N.Entry
  new_items = map (entry_by (told_in (content old) m.given)) (map new_entry fresh)

  abbrev after : Shelf
  after = shelf_queued taken request new_items (shelf_of (stored_in (content old) m))

  has_new : tells ≡ true → AllByRecursion (HasNew (content old)) fresh
  has_new t = new_there m.staged fs s.queue (content old) ask.put (sound.bodies whole t).staged

  opens_after : tells ≡ true → (c : World) → HasFiles s c → shelf_in c s ≡ shelf_of (stored_in (content old) m) → AllSynced (files old) fresh c → HasFiles ask.state c × (shelf_in c ask.state ≡ after)
  opens_after t c has same synced =
      let told : ((w : World) → files old w → w ≡ content old) = λ w read. (reads old w read).1 in
      let state : durable_in c ask.state ≡ with_queued ((durable_in c s).queue ++ new_items) request (durable_in c s) =
      durable_queued (contents_in c) m.books.payloads taken request fs s ask.state sound.memory.books.folds ask.queued
      ∙ ap (λ q. with_queued q request (durable_in c s)) (map-append (entry_by (contents_in c)) s.queue (map new_entry fresh) ∙ ap (λ l. map (entry_by (contents_in c)) s.queue ++ l) (new_seen (files old) (content old) c told m.given fresh (has_new t) synced)) in
      let takes : ask.state.takes ≡ with_take taken s.takes = ap (λ (u : State). u.takes) ask.queued.is in (
        files_queued (files old) (content old) c told taken request fs s ask.state ask.queued (has_new t) synced has,
        (λ i. record { state = state i; recorded = takes i; takes = takes_in c; outside = outside_in c; gifts = map gift_told c.gifts }) ∙ ap (shelf_queued taken request new_items) same,
      )

  appending : IsAppending tells content moment images old new m (AllSynced (files old) fresh) (map spelling rs) ask.state after
  appending = record {
    folds = sound.memory.books.folds;
    kept = sound.kept whole;
    more_folds = goes_on m.books.payloads rs records ∙ ap (λ o. option_and_then (λ u. fold_all u rs) o) sound.memory.books.folds ∙ ask.folds;
    run = run;
    opens = opens_after;
  }

  -- the shelf of what is told then
  told_queue : queue_each fs (map (staged_by (told_in (content old) m.given)) m.staged) (map (entry_by (told_in (content old) m.given)) s.queue) ≡ (stored_in (content old) m).stock.state.queue ++ new_items
  told_queue = queue_seen (told_in (content old) m.given) m.staged fs s.queue ask.put ∙ map-append (entry_by (told_in (content old) m.given)) s.queue (map new_entry fresh)

  told_after : (l : List Rattle.node_model.specs.Node.Record) → shelf_of (take_stored taken (stored_after (all_queued fs request) m.seat l (stored_in (content old) m))) ≡ after
  told_after l = ap (λ q. record (shelf_of (stored_in (content old) m)) { state = with_queued q request (stored_in (content old) m).stock.state; recorded = with_take taken s.takes }) told_queue

  would : StoreState
  would = with_all_queued taken request fs (state_of tells (content old) (faults old) m)

  would_tell : tells ≡ true → IsShelf (with_all_queued taken request fs (state_of tells (content old) (faults old) m)).content after
  would_tell t = go tells t (sym (told_after (queueing_records taken request fs (state_of tells (content old) (faults old) m))))
    where
      go : (b : Bool) → b ≡ true → after ≡ shelf_of (take_stored taken (stored_after (all_queued fs request) m.seat (queueing_records taken request fs (state_of tells (content old) (faults old) m)) (stored_in (content old) m)))
          → IsShelf (option_map (take_stored taken) (option_map (stored_after (all_queued fs request) m.seat (queueing_records taken request fs (state_of tells (content old) (faults old) m))) (if b then Some (stored_in (content old) m) else None))) after
      go true t is = is
      go false t is = off (sym t)

  module _ (room : length m.books.payloads + m.books.reserved + length (map spelling rs) ≤ MOST_RECORDS) where
    fits : (state_of tells (content old) (faults old) m).records + (state_of tells (content old) (faults old) m).reserved + length (queueing_records taken request fs (state_of tells (content old) (faults old) m)) ≤ MOST_RECORDS
    fits = let n = count_is tells (content old) (faults old) m taken request fs ask.put in omega (arith, n, room)

    pub queue_failed : Increased (faults old) (faults new) → StoreKept (standing tells content faults moment images old m) (Queue_all taken request fs) (Refuses Disk) (standing tells content faults moment images new (record m { broken = Some (faults new) }))
    queue_failed rose =
        appended_failed tells content faults moment images old new m (AllSynced (files old) fresh) (map spelling rs) ask.state after appending
        (Queue_all taken request fs) (Slots (slots_in fs s.queue)) (with_all_queued taken request fs (state_of tells (content old) (faults old) m)) (slots_are tells (content old) (faults old) m taken request fs ask.put, fits, refl)
        would_tell (record m { broken = Some (faults new) })
        (breaks_same tells (content old) (content new) (faults old) (faults new) m (Queue_all taken request fs) tt rose (λ t. stored_only (content old) (content new) (only t) m) (λ t. (only t).gifts) (λ t n among. (only t).others (in_name n) (in_not_ledger n)))

    -- the records are durable
    module _ (b : Books) (books : IsBooks b) (batched : IsBatched (map spelling rs) rs m.seat m.books b) (durable : Every (Now moment images new) (LedgerIs b.payloads)) (synced : Every (Now moment images new) (AllSynced (files old) fresh)) (calm : faults new ≡ faults old) where
      state_is : ask.state ≡ b.folding.state
      state_is = some_inj (sym ask.folds ∙ batched.folded)

      queued : IsQueued taken request fs s b.folding.state
      queued = subst (IsQueued taken request fs s) state_is ask.queued

      abbrev after_it : Memory
      after_it = record m { books = b; staged = unstaged fs m.staged }

      told_batched : tells ≡ true → shelf_of (stored_in (content new) after_it) ≡ after
      told_batched t =
          ap shelf_of (stored_batched tells (content old) (content new) (faults old) (faults new) m b taken request fs sound.memory.books ask.put queued records batched only calm (only t))
          ∙ told_after (map Rattle.node_store.specs.Logs.noted rs)

      ledger_now : Every (Now moment images new) (LedgerIs (m.books.payloads ++ map spelling rs))
      ledger_now = subst (λ (ps : List (List ℕ)). Every (Now moment images new) (LedgerIs ps)) batched.payloads durable

      pub queue_kept : StoreKept (standing tells content faults moment images old m) (Queue_all taken request fs) (Slots (slots_in fs s.queue)) (standing tells content faults moment images new (record m { books = b; staged = unstaged fs m.staged }))
      queue_kept =
          appended_kept tells content faults moment images old new m (AllSynced (files old) fresh) (map spelling rs) ask.state after appending ledger_now synced
          (Queue_all taken request fs) (Slots (slots_in fs s.queue)) after_it (λ x y does. does)
          (slots_are tells (content old) (faults old) m taken request fs ask.put, fits, batched_told tells (content old) (content new) (faults old) (faults new) m b taken request fs sound.memory.books ask.put queued records batched only calm)
          told_batched

      pub queue_sound : IsSound tells content moment images new (record m { books = b; staged = unstaged fs m.staged })
      queue_sound = record {
        memory = memory_queued m b taken request fs ask.put queued batched.holds books sound.memory;
        kept = λ still. appended_now tells content faults moment images old new m (AllSynced (files old) fresh) (map spelling rs) ask.state after appending ledger_now synced after_it batched.payloads (sym state_is) told_batched;
        bodies = λ still t. bodies_queued m b taken request fs ask.put queued (content old) (content new) (only t) (sound.bodies whole t);
      }
