-- Files are queued together: what is told then.
use Rattle.std.proofs.Common.{◌≡◌, ℕ, ◌+◌, ◌==◌, List, [], ◌∷◌, ◌++◌, length, drop, map, replicate, Option, Some, None, Result, Bool, true, false, refl, sym, ◌∙◌, ap, length-append}
use Rattle.std.specs.Prelude.{find, option_map, if◌then◌else◌}
use Rattle.std.proofs.lemmas.List.{append-nil, append_assoc, length-map}
use Rattle.disk_model.specs.World.{World}
use Rattle.disk_model.specs.Changes.{Only}
use Rattle.ftn_addr.specs.Files.{is_same}
use Rattle.ftn_addr.specs.declared.source_file.Action.{Action}
use Rattle.ftn_addr.specs.declared.source_file.Action.TheVariants.{Leave, Delete, Cut}
use Rattle.ledger_file.specs.Ledger.{ledger_name}
use Rattle.ledger_rec.proofs.ReadBack.{record_of_payload}
use Rattle.ledger_rec.specs.Batch as B
use Rattle.ledger_rec.specs.Batch.{queue_records}
use Rattle.ledger_rec.specs.Fold.{State, new_entry}
use Rattle.ledger_rec.specs.Items.{Entry, Receipt}
use Rattle.ledger_rec.specs.Payloads.{nowhere, fold_of}
use Rattle.ledger_rec.specs.Record.{NewFileText, RecordText, Queue}
use Rattle.ledger_rec.specs.Spelling.{AreRecords, spelling}
use Rattle.ledger_rec.specs.declared.fault.RecFault.{RecFault}
use Rattle.node_model.specs.declared.words.Flavour.{Flavour}
use Rattle.node_model.specs.declared.words.Flavour.TheVariants.{Immediate, Crash, Direct, Normal, Hold}
use Rattle.node_model.specs.Durable.{DurableOf, with_queued, all_answered}
use Rattle.node_model.specs.Items as N
use Rattle.node_model.specs.Lists.{Each, some_passes, without}
use Rattle.node_model.specs.Node.{Record, Logged, Queue_record}
use Rattle.node_model.specs.Rows.{all_by}
use Rattle.node_model.specs.SendRows.{Slot, taken_records, answered_records}
use Rattle.node_model.specs.Stocks.{Stock, Sizes, StagedOf, NewEntry, staged_in, entry_with, queued_as, queue_unless, queue_each, slot_for, slots_of, is_listed, entry_records, all_queued}
use Rattle.node_model.specs.StoreStates.{Stored, stored_after}
use Rattle.node_model.specs.Stores.{with_take, take_stored, with_all_queued}
use Rattle.node_model.specs.StoreWords.{WasStaged}
use Rattle.node_model.proofs.Lists.{some_inj, none_some}
use Rattle.node_model.proofs.StockMaps.{without-map}
use Rattle.node_store.specs.Books.{Books, IsBooks}
use Rattle.node_store.specs.Contents.{Contents, entry_by, receipt_by, durable_by}
use Rattle.node_store.specs.Logs.{flavour_number, flavour_of, action_number, action_of, noted, logged, log_of}
use Rattle.node_store.specs.Planned.{new_text, queued_in, queue_with, fresh_with, slot_with, slots_in, fresh_in, IsBatched}
use Rattle.node_store.specs.Stored.{Put, Memory, told_in, sizes_in, staged_by, stock_by, stored_in, state_of}
use Rattle.node_store.specs.Worlds.{outside_in, gift_told, takes_in}
use Rattle.node_store.proofs.AppendTold.{stored_only, log_more}
use Rattle.node_store.proofs.BatchFollows.{AnsweredInbox, IsQueued}
use Rattle.node_store.proofs.Found.{found_is, found_seen}
use Rattle.node_store.proofs.Mirrors.{map-append, answer_mirrored}
use Rattle.node_store.proofs.Numbered.{numbered_fold}
use Rattle.node_store.proofs.PlanLemmas.{find_mapped}
use Rattle.node_store.proofs.Puts.{same_sizes}
use Rattle.node_store.specs.Names.{in_name}
use Rattle.node_store.proofs.NameLaws.{in_not_ledger}

-- The words of a record, and back.

flavour_back : (f : Flavour) → flavour_of (flavour_number f) ≡ f
flavour_back Immediate = refl
flavour_back Crash = refl
flavour_back Direct = refl
flavour_back Normal = refl
flavour_back Hold = refl

action_back : (a : Action) → action_of (action_number a) ≡ a
action_back Leave = refl
action_back Delete = refl
action_back Cut = refl

noted_queue : (f : NewEntry) → noted (Queue (new_text f)) ≡ Queue_record f.number f.dest f.key f.flavour f.source f.action
noted_queue f = λ i. Queue_record f.number f.dest f.key (flavour_back f.flavour i) f.source (action_back f.action i)

-- the staged file that is queued
pub record HasPut (staged : List Put) (f : NewEntry) : Type 0 where
  pub put : Put
  pub found : find (λ (p : Put). p.number == f.number) staged ≡ Some put
  pub numbered : put.number ≡ f.number
  pub size : put.size ≡ f.key.size

pub was_put : (tells : Bool) (w : World) (given : List ℕ) (staged : List Put) (f : NewEntry) → WasStaged (map (staged_by (sizes_in tells w given)) staged) f → HasPut staged f
was_put tells w given staged f was =
    let c = sizes_in tells w given in
    go (find (λ (p : Put). p.number == f.number) staged) refl (sym (found_seen (λ (p : Put). p.number) (λ (x : StagedOf ℕ). x.number) (staged_by c) (λ p. refl) f.number staged) ∙ was.1)
  where
    go : (o : Option Put) → find (λ (p : Put). p.number == f.number) staged ≡ o → option_map (staged_by (sizes_in tells w given)) o ≡ Some was.0 → HasPut staged f
    go None is e = none_some e
    go (Some p) is e = record {
      put = p;
      found = is;
      numbered = (found_is (λ (x : Put). x.number) f.number p staged is).1;
      size = ap (λ (x : StagedOf ℕ). x.content) (some_inj e) ∙ was.2;
    }

pub all_put : (tells : Bool) (w : World) (given : List ℕ) (staged : List Put) (fs : List NewEntry) → Each (WasStaged (map (staged_by (sizes_in tells w given)) staged)) fs → Each (HasPut staged) fs
all_put tells w given staged [] all = tt
all_put tells w given staged (f ∷ fs) all = (was_put tells w given staged f all.0, all_put tells w given staged fs all.1)

behind_front : (f : NewEntry) (o : Option Entry) (q : List Entry) (rest : List NewFileText) → queue_with f o q ++ map new_entry rest ≡ q ++ map new_entry (fresh_with f o ++ rest)
behind_front f (Some e) q rest = refl
behind_front f None q rest = append_assoc q (new_entry (new_text f) ∷ []) (map new_entry rest)

module _ {B : Type 0} (c : Contents B) (staged : List Put) where
  entry_new : (f : NewEntry) → entry_by c (new_entry (new_text f)) ≡ entry_with f (c.queued f.number f.key.size)
  entry_new f = λ i. record {
    number = f.number;
    dest = f.dest;
    key = f.key;
    flavour = flavour_back f.flavour i;
    source = f.source;
    action = action_back f.action i;
    acted = false;
    body = N.Live (c.queued f.number f.key.size);
  }

  staged_found : (f : NewEntry) → HasPut staged f → staged_in f.number (map (staged_by c) staged) ≡ Some (record { number = f.number; content = c.queued f.number f.key.size })
  staged_found f h =
      let number = h.numbered in
      let size = h.size in
      found_seen (λ (p : Put). p.number) (λ (x : StagedOf B). x.number) (staged_by c) (λ p. refl) f.number staged ∙ ap (option_map (staged_by c)) h.found
      ∙ (λ i. Some (record { number = number i; content = c.queued (number i) (size i) }))

  as_seen : (f : NewEntry) (q : List Entry) → queued_as f.dest f.key (map (entry_by c) q) ≡ option_map (entry_by c) (queued_in f.dest f.key q)
  as_seen f q = find_mapped (λ (e : N.EntryOf B). is_same f.dest f.key e.dest e.key) (entry_by c) q

  queue_step : (f : NewEntry) (o : Option Entry) (q : List Entry) → HasPut staged f → queue_unless f (option_map (entry_by c) o) (staged_in f.number (map (staged_by c) staged)) (map (entry_by c) q) ≡ map (entry_by c) (queue_with f o q)
  queue_step f (Some e) q h = refl
  queue_step f None q h =
      ap (λ (s : Option (StagedOf B)). Rattle.node_model.specs.Stocks.queue_staged f s (map (entry_by c) q)) (staged_found f h)
      ∙ ap (λ (e : N.EntryOf B). map (entry_by c) q ++ e ∷ []) (sym (entry_new f)) ∙ sym (map-append (entry_by c) q (new_entry (new_text f) ∷ []))

  one_queued : (f : NewEntry) (q : List Entry) → HasPut staged f → queue_unless f (queued_as f.dest f.key (map (entry_by c) q)) (staged_in f.number (map (staged_by c) staged)) (map (entry_by c) q) ≡ map (entry_by c) (queue_with f (queued_in f.dest f.key q) q)
  one_queued f q h =
      ap (λ (o : Option (N.EntryOf B)). queue_unless f o (staged_in f.number (map (staged_by c) staged)) (map (entry_by c) q)) (as_seen f q) ∙ queue_step f (queued_in f.dest f.key q) q h

  pub queue_seen : (fs : List NewEntry) (q : List Entry) → Each (HasPut staged) fs → queue_each fs (map (staged_by c) staged) (map (entry_by c) q) ≡ map (entry_by c) (q ++ map new_entry (fresh_in fs q))
  queue_seen [] q all = ap (map (entry_by c)) (sym (append-nil q))
  queue_seen (f ∷ fs) q all =
      let o = queued_in f.dest f.key q in
      ap (λ l. queue_each fs (map (staged_by c) staged) l) (one_queued f q all.0) ∙ queue_seen fs (queue_with f o q) all.1
      ∙ ap (map (entry_by c)) (behind_front f o q (fresh_in fs (queue_with f o q)))

  slot_seen : (f : NewEntry) (o : Option Entry) → slot_for f (option_map (entry_by c) o) ≡ slot_with f o
  slot_seen f (Some e) = refl
  slot_seen f None = refl

  pub slots_seen : (fs : List NewEntry) (q : List Entry) → Each (HasPut staged) fs → slots_of fs (map (staged_by c) staged) (map (entry_by c) q) ≡ slots_in fs q
  slots_seen [] q all = refl
  slots_seen (f ∷ fs) q all =
      let o = queued_in f.dest f.key q in
      ap (λ l. slot_for f (queued_as f.dest f.key (map (entry_by c) q)) ∷ slots_of fs (map (staged_by c) staged) l) (one_queued f q all.0)
      ∙ ap (λ (x : Slot). x ∷ slots_of fs (map (staged_by c) staged) (map (entry_by c) (queue_with f o q))) (ap (slot_for f) (as_seen f q) ∙ slot_seen f o)
      ∙ ap (λ (l : List Slot). slot_with f o ∷ l) (slots_seen fs (queue_with f o q) all.1)

-- the records

records_step : (f : NewEntry) (o : Option Entry) (fs : List NewEntry) (slots : List Slot) (rest : List NewFileText) → entry_records fs slots ≡ map noted (queue_records rest) → entry_records (f ∷ fs) (slot_with f o ∷ slots) ≡ map noted (queue_records (fresh_with f o ++ rest))
records_step f (Some e) fs slots rest is = is
records_step f None fs slots rest is = λ i. sym (noted_queue f) i ∷ is i

pub records_seen : (fs : List NewEntry) (q : List Entry) → entry_records fs (slots_in fs q) ≡ map noted (queue_records (fresh_in fs q))
records_seen [] q = refl
records_seen (f ∷ fs) q =
    let o = queued_in f.dest f.key q in
    records_step f o fs (slots_in fs (queue_with f o q)) (fresh_in fs (queue_with f o q)) (records_seen fs (queue_with f o q))

noted_take : (taken : Option ℕ) → map noted (B.taken_records taken) ≡ taken_records taken
noted_take None = refl
noted_take (Some take) = refl

noted_answer : (answered : Option ℕ) → map noted (B.answered_records answered) ≡ answered_records answered
noted_answer None = refl
noted_answer (Some receipt) = refl

-- all records of a batch
abbrev pub batch_of : Option ℕ → Option ℕ → List NewEntry → List Entry → List RecordText
batch_of taken answered fs q = queue_records (fresh_in fs q) ++ B.taken_records taken ++ B.answered_records answered

pub batch_noted : (taken answered : Option ℕ) (fs : List NewEntry) (q : List Entry) → entry_records fs (slots_in fs q) ++ taken_records taken ++ answered_records answered ≡ map noted (batch_of taken answered fs q)
batch_noted taken answered fs q =
    (λ i. records_seen fs q i ++ sym (noted_take taken) i ++ sym (noted_answer answered) i)
    ∙ ap (λ (l : List Record). l ++ map noted (B.answered_records answered)) (sym (map-append noted (queue_records (fresh_in fs q)) (B.taken_records taken)))
    ∙ sym (map-append noted (queue_records (fresh_in fs q) ++ B.taken_records taken) (B.answered_records answered))

pub log_spelled : (seat : ℕ) (rs : List RecordText) → AreRecords rs → log_of (replicate (length (map spelling rs)) seat) (map spelling rs) ≡ all_by seat (map noted rs)
log_spelled seat [] all = refl
log_spelled seat (r ∷ rs) all =
    ap (λ (x : Result RecordText RecFault). logged seat x ++ log_of (replicate (length (map spelling rs)) seat) (map spelling rs)) (record_of_payload nowhere (spelling r) r all.0.0 (record { text = refl; fits = all.0.1 }))
    ∙ ap (λ (l : List Logged). record { seat = seat; entry = noted r } ∷ l) (log_spelled seat rs all.1)

-- the durable state

inbox_seen : {B : Type 0} (c : Contents B) (ps : List (List ℕ)) (s : State) (request : Option ℕ) (inbox : List Receipt) → fold_of ps ≡ Some s → AnsweredInbox request s.inbox inbox → map (receipt_by c) inbox ≡ all_answered request (map (receipt_by c) s.inbox)
inbox_seen c ps s None inbox folds is = ap (map (receipt_by c)) is
inbox_seen {B} c ps s (Some n) inbox folds is = ap (λ (d : DurableOf B). d.inbox) (answer_mirrored c n s inbox (numbered_fold ps s folds).inbox is)

pub durable_queued : {B : Type 0} (c : Contents B) (ps : List (List ℕ)) (taken request : Option ℕ) (fs : List NewEntry) (s t : State) → fold_of ps ≡ Some s → IsQueued taken request fs s t
    → durable_by c t ≡ with_queued (map (entry_by c) (s.queue ++ map new_entry (fresh_in fs s.queue))) request (durable_by c s)
durable_queued c ps taken request fs s t folds is =
    let inbox = inbox_seen c ps s request is.inbox folds is.answers in
    ap (durable_by c) is.is ∙ (λ i. record (durable_by c s) { queue = map (entry_by c) (s.queue ++ map new_entry (fresh_in fs s.queue)); inbox = inbox i })

-- these are staged no more
abbrev pub unstaged : List NewEntry → List Put → List Put
unstaged fs staged = without (λ (p : Put). some_passes (λ (f : NewEntry). f.number == p.number) fs) staged

-- What is told after the batch.
module _ (tells : Bool) (told told' : World) (faults faults' : ℕ) (m : Memory) (b : Books) (taken request : Option ℕ) (fs : List NewEntry)
    (is : IsBooks m.books) (put : Each (HasPut m.staged) fs) (queued : IsQueued taken request fs m.books.folding.state b.folding.state) (records : AreRecords (batch_of taken request fs m.books.folding.state.queue))
    (batched : IsBatched (map spelling (batch_of taken request fs m.books.folding.state.queue)) (batch_of taken request fs m.books.folding.state.queue) m.seat m.books b) (only : tells ≡ true → Only ledger_name told told') (calm : faults' ≡ faults) where
  abbrev pub after_batch : Memory
  after_batch = record m { books = b; staged = unstaged fs m.staged }

  abbrev rs : List RecordText
  rs = batch_of taken request fs m.books.folding.state.queue

  takes : b.folding.state.takes ≡ with_take taken m.books.folding.state.takes
  takes = ap (λ (s : State). s.takes) queued.is

  stock_batched : {B : Type 0} (c : Contents B) → stock_by c after_batch ≡ all_queued fs request (stock_by c m)
  stock_batched c =
      let state = durable_queued c m.books.payloads taken request fs m.books.folding.state b.folding.state is.folds queued
      ∙ ap (λ q. with_queued q request (durable_by c m.books.folding.state)) (sym (queue_seen c m.staged fs m.books.folding.state.queue put)) in
      let staged = sym (without-map (staged_by c) (λ x. is_listed fs x) m.staged) in
      λ i. record { state = state i; parts = (stock_by c m).parts; staged = staged i }

  noted_records : (c : Contents ℕ) → map noted rs ≡ entry_records fs (slots_of fs (map (staged_by c) m.staged) (map (entry_by c) m.books.folding.state.queue)) ++ taken_records taken ++ answered_records request
  noted_records c =
      sym (batch_noted taken request fs m.books.folding.state.queue)
      ∙ ap (λ (l : List Slot). entry_records fs l ++ taken_records taken ++ answered_records request) (sym (slots_seen c m.staged fs m.books.folding.state.queue put))

  some_logged : log_of b.seats (drop b.opened b.payloads) ≡ (stored_in told m).log ++ all_by m.seat (map noted rs)
  some_logged =
      (λ i. log_of (batched.seats i) (drop (batched.opened i) (batched.payloads i)))
      ∙ log_more m.books (replicate (length (map spelling rs)) m.seat) (map spelling rs) is
      ∙ ap (λ (l : List Logged). log_of m.books.seats (drop m.books.opened m.books.payloads) ++ l) (log_spelled m.seat rs records)

  pub stored_batched : Only ledger_name told told' → stored_in told' after_batch ≡ take_stored taken (stored_after (all_queued fs request) m.seat (map noted rs) (stored_in told m))
  stored_batched one =
      stored_only told told' one after_batch
      ∙ (λ i. record {
        stock = stock_batched (told_in told m.given) i;
        recorded = takes i;
        takes = takes_in told;
        outside = outside_in told;
        gifts = map gift_told told.gifts;
        log = some_logged i;
      })

  pub batched_told : state_of tells told' faults' after_batch ≡ with_all_queued taken request fs (state_of tells told faults m)
  batched_told =
      let sized = same_sizes tells told told' m.given (λ t. (only t).gifts) (λ t n among. (only t).others (in_name n) (in_not_ledger n)) in
      let stock = ap (λ (c : Contents ℕ). stock_by c after_batch) sized ∙ stock_batched (sizes_in tells told m.given) in
      let content = go tells (λ t. stored_batched (only t)) in
      let more : length (map noted rs) ≡ length (map spelling rs) = length-map rs noted ∙ sym (length-map rs spelling) in
      let payloads : length b.payloads ≡ length m.books.payloads + length (map noted rs) = ap length batched.payloads ∙ length-append m.books.payloads (map spelling rs) ∙ ap (λ (n : ℕ). length m.books.payloads + n) (sym more) in
      let appended : length (log_of b.seats (drop b.opened b.payloads)) ≡ (state_of tells told faults m).appended + length (map noted rs) =
      ap length some_logged ∙ length-append (stored_in told m).log (all_by m.seat (map noted rs)) ∙ ap (λ (n : ℕ). (state_of tells told faults m).appended + n) (length-map (map noted rs) (λ (r : Record). record { seat = m.seat; entry = r })) in
      (λ i. record {
        content = content i;
        stock = stock i;
        recorded = takes i;
        records = payloads i;
        reserved = batched.places i;
        staged = m.last_staged;
        drawn = m.drawn;
        seat = m.seat;
        appended = appended i;
        last_given = m.last_given;
        counts = record { faults = calm i; fulls = m.fulls; broken = m.broken };
      })
      ∙ ap (λ (l : List Record).
      let new = Rattle.node_model.specs.StoreStates.changed (all_queued fs request) (all_queued fs request) l (state_of tells told faults m) in
      record new { recorded = with_take taken m.books.folding.state.takes; content = option_map (take_stored taken) new.content }) (noted_records (sizes_in tells told m.given))
    where
      go : (x : Bool) → (x ≡ true → stored_in told' after_batch ≡ take_stored taken (stored_after (all_queued fs request) m.seat (map noted rs) (stored_in told m)))
          → (if x then Some (stored_in told' after_batch) else None) ≡ option_map (take_stored taken) (option_map (stored_after (all_queued fs request) m.seat (map noted rs)) (if x then Some (stored_in told m) else None))
      go true same = ap Some (same refl)
      go false same = refl
