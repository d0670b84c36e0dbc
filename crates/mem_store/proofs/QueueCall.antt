-- Files are queued in one durable change.
use Rattle.std.proofs.Common.{◌≡◌, ◌≢◌, ℕ, ◌+◌, ◌<◌, ◌≤◌, Bool, true, false, ◌==◌, cond, List, [], ◌∷◌, ◌++◌, Option, Some, None, refl, sym, ◌∙◌, ap, subst, arith, length, map, option_map, append-nil}
use Rattle.std.proofs.lemmas.List.{length-append, length-map, map-append}
use Rattle.node_model.specs.declared.words.TheConstants.{MOST_RECORDS}
use Rattle.node_model.specs.declared.store.StoreFault.TheVariants.{Full}
use Rattle.node_model.specs.Items.{Entry, EntryOf, Receipt}
use Rattle.node_model.specs.Lists.{Each, without}
use Rattle.node_model.specs.Durable.{entry_map, answered_receipt, all_answered}
use Rattle.node_model.specs.Node.{Logged, Record}
use Rattle.node_model.specs.Rows.{all_by}
use Rattle.node_model.specs.SendRows.{Slot, taken_records, answered_records}
use Rattle.node_model.specs.Stocks.{StagedOf, NewEntry, slots_of, is_listed, entry_records, queue_each, all_queued}
use Rattle.node_model.specs.Stores.{StoreState, StoreKept, StoreDoes, Queue_all, Slots, Refuses, queueing_records, with_take, take_stored, with_all_queued}
use Rattle.node_model.specs.StoreWords.{FitsQueue, IsNewBatch}
use Rattle.node_model.proofs.Lists.{Each-weaker}
use Rattle.ftn_addr.specs.Limits.{IsKey}
use Rattle.mem_store.proofs.Kept.{told, still, grew, changed_is}
use Rattle.mem_store.proofs.PartCalls.{InOrder}
use Rattle.node_model.proofs.QueuedSizes.{slots-map, all_queued-map}
use Rattle.mem_store.proofs.Queueing.{nothing_new, one_each_queued}
use Rattle.mem_store.specs.Comings.{Coming}
use Rattle.mem_store.specs.ListStates.{ListState, called, found_full, durable_of, stock_of, stored_of, state_of, stand_of}
use Rattle.mem_store.specs.Outsiders.{outside_of}
use Rattle.mem_store.specs.Orders.{OneEach, IsOrderly}

abbrev pub records_for : Option ℕ → Option ℕ → List NewEntry → ListState → List Record
records_for taken answered files s = entry_records files (slots_of files s.staged s.queue) ++ taken_records taken ++ answered_records answered

abbrev pub queued_after : ListState → Option ℕ → Option ℕ → List NewEntry → ListState
queued_after s taken answered files =
    record s { queue = queue_each files s.staged s.queue; inbox = all_answered answered s.inbox; staged = without (λ (x : StagedOf (List ℕ)). is_listed files x) s.staged; recorded = with_take taken s.recorded; log = s.log ++ all_by s.seat (records_for taken answered files s) }

same_records : (taken answered : Option ℕ) (files : List NewEntry) (s : ListState) → queueing_records taken answered files (state_of s) ≡ records_for taken answered files s
same_records taken answered files s =
    ap (λ (slots : List Slot). entry_records files slots ++ taken_records taken ++ answered_records answered) (slots-map files s.staged s.queue)

queued_state : (s : ListState) (taken answered : Option ℕ) (files : List NewEntry) → state_of (queued_after s taken answered files) ≡ with_all_queued taken answered files (state_of s)
queued_state s taken answered files =
    ap (λ (rs : List Record). record (told (all_queued files answered (stock_of s)) (s.log ++ all_by s.seat rs) s) { recorded = with_take taken s.recorded; content = Some (record (take_stored taken (stored_of s)) { stock = all_queued files answered (stock_of s); log = s.log ++ all_by s.seat rs }) }) (sym (same_records taken answered files s))
    ∙ ap (λ (z : StoreState). record z { recorded = with_take taken s.recorded; content = option_map (take_stored taken) z.content }) (changed_is (stock_of s) s.log s (all_queued files answered) (all_queued files answered) (queueing_records taken answered files (state_of s)) (all_queued-map files answered (stock_of s)))

-- both ends of what is empty are

front_empty : {A : Type 0} (xs ys : List A) → xs ++ ys ≡ [] → xs ≡ []
front_empty [] ys e = refl
front_empty (x ∷ xs) ys e = absurd (cc)

back_empty : {A : Type 0} (xs ys : List A) → xs ++ ys ≡ [] → ys ≡ []
back_empty [] ys e = e
back_empty (x ∷ xs) ys e = absurd (cc)

not_taken : (taken : Option ℕ) (recorded : List ℕ) → taken_records taken ≡ [] → with_take taken recorded ≡ recorded
not_taken None recorded e = refl
not_taken (Some take) recorded e = absurd (cc)

not_answered : (answered : Option ℕ) (inbox : List Receipt) → answered_records answered ≡ [] → all_answered answered inbox ≡ inbox
not_answered None inbox e = refl
not_answered (Some number) inbox e = absurd (cc)

pub queues : (s : ListState) (taken answered : Option ℕ) (files : List NewEntry) → length s.log + s.reserved + length (records_for taken answered files s) ≤ MOST_RECORDS → StoreKept (stand_of s) (Queue_all taken answered files) (Slots (slots_of files s.staged s.queue)) (stand_of (queued_after s taken answered files))
queues s taken answered files room = go (records_for taken answered files s) refl
  where
    does : StoreDoes (state_of s) (Queue_all taken answered files) (Slots (slots_of files s.staged s.queue)) (state_of (queued_after s taken answered files))
    does = (sym (slots-map files s.staged s.queue), subst (λ (rs : List Record). length s.log + s.reserved + length rs ≤ MOST_RECORDS) (sym (same_records taken answered files s)) room, queued_state s taken answered files)

    go : (rs : List Record) → records_for taken answered files s ≡ rs → StoreKept (stand_of s) (Queue_all taken answered files) (Slots (slots_of files s.staged s.queue)) (stand_of (queued_after s taken answered files))
    go [] none =
        let front = front_empty (entry_records files (slots_of files s.staged s.queue) ++ taken_records taken) (answered_records answered) none in
        let queue = nothing_new files s.staged s.queue (front_empty (entry_records files (slots_of files s.staged s.queue)) (taken_records taken) front) in
        let recorded = not_taken taken s.recorded (back_empty (entry_records files (slots_of files s.staged s.queue)) (taken_records taken) front) in
        let inbox = not_answered answered s.inbox (back_empty (entry_records files (slots_of files s.staged s.queue) ++ taken_records taken) (answered_records answered) none) in
        still s (queued_after s taken answered files) (Queue_all taken answered files) (Slots (slots_of files s.staged s.queue)) does (ap (λ (rs : List Record). s.log ++ all_by s.seat rs) none ∙ append-nil s.log) (λ j. record { state = record (durable_of s) { queue = queue j; inbox = inbox j }; recorded = recorded j; takes = λ name. None; outside = outside_of s.outside; gifts = s.gifts })
    go (r ∷ rs) some =
        let long : length (s.log ++ all_by s.seat (records_for taken answered files s)) ≡ length s.log + length (all_by s.seat (records_for taken answered files s)) = length-append s.log (all_by s.seat (records_for taken answered files s)) in
        let more : length (all_by s.seat (records_for taken answered files s)) ≡ length (r ∷ rs) = length-map (records_for taken answered files s) (λ (x : Record). record { seat = s.seat; entry = x }) ∙ ap length some in
        grew s (queued_after s taken answered files) (Queue_all taken answered files) (Slots (slots_of files s.staged s.queue)) does does (omega (arith, long, more)) refl

-- there is no place for the records
pub queues_full : (s : ListState) (taken answered : Option ℕ) (files : List NewEntry) → MOST_RECORDS < length s.log + s.reserved + length (records_for taken answered files s) → StoreKept (stand_of s) (Queue_all taken answered files) (Refuses Full) (stand_of (found_full s))
queues_full s taken answered files over =
    still s (found_full s) (Queue_all taken answered files) (Refuses Full) (subst (λ (rs : List Record). MOST_RECORDS < length s.log + s.reserved + length rs) (sym (same_records taken answered files s)) over, refl) refl refl

-- In order.

each_above : (s : ListState) (files : List NewEntry) → Each (λ (f : NewEntry). Each (λ (e : EntryOf ℕ). e.number < f.number) (map (entry_map length) s.queue)) files → Each (λ (f : NewEntry). Each (λ (e : Entry). e.number < f.number) s.queue) files
each_above s files all = Each-weaker (λ (f : NewEntry). Each (λ (e : EntryOf ℕ). e.number < f.number) (map (entry_map length) s.queue)) (λ (f : NewEntry). Each (λ (e : Entry). e.number < f.number) s.queue) (λ f h. inside f s.queue h) files all
  where
    inside : (f : NewEntry) (queue : List Entry) → Each (λ (e : EntryOf ℕ). e.number < f.number) (map (entry_map length) queue) → Each (λ (e : Entry). e.number < f.number) queue
    inside f [] h = tt
    inside f (e ∷ queue) h = (h.0, inside f queue h.1)

answered_number : (number : ℕ) (r : Receipt) → (answered_receipt number r).number ≡ r.number
answered_number number r = go (r.number == number)
  where
    go : (b : Bool) → (cond b (record r { answered = true }) r).number ≡ r.number
    go true = refl
    go false = refl

each_answered : (P : ℕ → Type 0) (answered : Option ℕ) (inbox : List Receipt) → Each (λ (r : Receipt). P r.number) inbox → Each (λ (r : Receipt). P r.number) (all_answered answered inbox)
each_answered P None inbox all = all
each_answered P (Some number) inbox all = over inbox all
  where
    over : (rs : List Receipt) → Each (λ (r : Receipt). P r.number) rs → Each (λ (r : Receipt). P r.number) (map (answered_receipt number) rs)
    over [] all = tt
    over (r ∷ rs) all = (subst P (sym (answered_number number r)) all.0, over rs all.1)

one_answered : (answered : Option ℕ) (inbox : List Receipt) → OneEach (λ (r : Receipt). r.number) inbox → OneEach (λ (r : Receipt). r.number) (all_answered answered inbox)
one_answered None inbox one = one
one_answered (Some number) inbox one = over inbox one
  where
    over : (rs : List Receipt) → OneEach (λ (r : Receipt). r.number) rs → OneEach (λ (r : Receipt). r.number) (map (answered_receipt number) rs)
    over [] one = tt
    over (r ∷ rs) one = (subst (λ n. Each (λ (q : Receipt). q.number ≢ n) (map (answered_receipt number) rs)) (sym (answered_number number r)) (each_answered (λ n. n ≢ r.number) (Some number) rs one.0), over rs one.1)

pub order_queue : (s : ListState) (taken answered : Option ℕ) (files : List NewEntry) → InOrder s → IsNewBatch taken answered files (state_of s) → IsOrderly (queue_each files s.staged s.queue) (all_answered answered s.inbox) s.parts s.drawn
order_queue s taken answered files o batch =
    record {
      apart = o.apart;
      numbers = o.numbers;
      entries = one_each_queued files s.staged s.queue o.entries (each_above s files batch.above) batch.rise;
      receipts = one_answered answered s.inbox o.receipts;
      receipts_drawn = each_answered (λ n. n ≤ s.drawn) answered s.inbox o.receipts_drawn;
      unreceived = Each-weaker (λ (p : Coming). Each (λ (r : Receipt). r.number ≢ p.number) s.inbox) (λ (p : Coming). Each (λ (r : Receipt). r.number ≢ p.number) (all_answered answered s.inbox)) (λ p h. each_answered (λ n. n ≢ p.number) answered s.inbox h) s.parts o.unreceived;
    }

-- the batch of a call is one after the call was counted
pub seen_batch : (s old : ListState) (taken answered : Option ℕ) (files : List NewEntry) → s ≡ called old → IsNewBatch taken answered files (state_of old) → IsNewBatch taken answered files (state_of s)
seen_batch s old taken answered files same batch = subst (λ (z : ListState). IsNewBatch taken answered files (state_of z)) (sym same) batch

pub keys_fit : (taken answered : Option ℕ) (files : List NewEntry) (z : StoreState) → IsNewBatch taken answered files z → Each (λ (f : NewEntry). IsKey f.key) files
keys_fit taken answered files z batch = Each-weaker FitsQueue (λ (f : NewEntry). IsKey f.key) (λ f h. h.key) files batch.limits

-- the records as they lie
pub records_are : (s : ListState) (taken answered : Option ℕ) (files : List NewEntry) (a b c : List Logged) → a ≡ all_by s.seat (entry_records files (slots_of files s.staged s.queue)) → b ≡ a ++ all_by s.seat (taken_records taken) → c ≡ b ++ all_by s.seat (answered_records answered) → c ≡ all_by s.seat (records_for taken answered files s)
records_are s taken answered files a b c x y z =
    let mark : Record → Logged = λ r. record { seat = s.seat; entry = r } in
    let es = entry_records files (slots_of files s.staged s.queue) in
    z ∙ (ap (λ (m : List Logged). m ++ all_by s.seat (answered_records answered)) (y ∙ (ap (λ (m : List Logged). m ++ all_by s.seat (taken_records taken)) x ∙ sym (map-append mark es (taken_records taken)))) ∙ sym (map-append mark (es ++ taken_records taken) (answered_records answered)))

-- the entries that are new stand behind the queue
pub fresh_joined : (files : List NewEntry) (staged staged_seen : List (StagedOf (List ℕ))) (queue queue_seen roomy after fresh : List Entry) → staged_seen ≡ staged → queue_seen ≡ queue → roomy ≡ queue → after ≡ roomy ++ fresh → queue_seen ++ fresh ≡ queue_each files staged_seen queue_seen → after ≡ queue_each files staged queue
fresh_joined files staged staged_seen queue queue_seen roomy after fresh same_staged same_queue same_roomy joined planned =
    joined ∙ (ap (λ (es : List Entry). es ++ fresh) (same_roomy ∙ sym same_queue) ∙ (planned ∙ (λ j. queue_each files (same_staged j) (same_queue j))))
