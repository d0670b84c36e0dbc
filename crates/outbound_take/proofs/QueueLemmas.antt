-- What was planned, once it is queued, is what each line does.
use Rattle.std.proofs.Common.{◌≡◌, inl, inr, ⊎_elim, ℕ, ◌≤◌, List, [], ◌∷◌, length, map, Option, Some, None, Result, Ok, Err, refl, sym, ◌∙◌, ap, subst}
use Rattle.ftn_addr.specs.Address.{Address}
use Rattle.ftn_addr.specs.declared.limits.TheConstants.{MAX_SIZE}
use Rattle.bso_outbound.specs.declared.kind.Kind.{Kind}
use Rattle.bso_outbound.specs.declared.kind.Kind.TheVariants as K
use Rattle.flow_file.specs.Item.{FlowItem, Send, Passed}
use Rattle.node_model.specs.declared.words.Flavour.{Flavour}
use Rattle.node_model.specs.declared.store.NewFile.{NewFile}
use Rattle.node_model.specs.declared.store.StoreFault.{StoreFault}
use Rattle.node_model.specs.declared.store.StoreFault.TheVariants.{Disk, Read, Full, NoMemory}
use Rattle.node_model.proofs.Lists.{some_inj}
use Rattle.node_model.specs.Items.{Entry}
use Rattle.node_model.specs.Outside.{OutFiles}
use Rattle.node_model.specs.SendRows.{Slot, New, Again}
use Rattle.node_model.specs.Stocks.{NewEntry}
use Rattle.node_model.specs.StoreWords.{entry_of, slot_of}
use Rattle.node_model.specs.declared.store.Slot.{Slot as SlotOf}
use Rattle.outbound_model.specs.declared.fate.Fate.{Fate}
use Rattle.outbound_model.specs.declared.fate.Fate.TheVariants as F
use Rattle.outbound_model.specs.Fates.{Brings, LineDoes, Lines, WholeDoes, lines_of, number_at, sent_entry, whole_entry, with_new}
use Rattle.outbound_model.specs.Outbound.{Outbound}
use Rattle.outbound_model.specs.Steps.{Step, Queued, Queues}
use Rattle.outbound_take.specs.declared.words.Line.{Line}
use Rattle.outbound_take.specs.declared.words.Line.TheVariants as L
use Rattle.outbound_take.specs.Calls.{Enqueued, IsTakeFor, QueuesFiles}
use Rattle.outbound_take.specs.Ours.{IsOurs, Ours}
use Rattle.outbound_take.specs.Plans.{IsFiled, IsWhole, Planned, PlansFate, PlansTake, fates_in}
use Rattle.outbound_take.specs.Stand.{Kept, Settles, SettledBy, TakeStand, Tried, told}
use Rattle.outbound_take.proofs.WorkLemmas.{Leads, Nothing, One, kept_works}

does_new : (dest : Address) (flavour : Flavour) (outside : OutFiles) (bodies : ℕ → Option (List ℕ)) (queue : List Entry) (i : FlowItem) (f : NewEntry) (n : ℕ) (bytes : List ℕ)
    → IsFiled dest flavour i outside bodies f → n ≡ f.number → number_at f.dest f.key queue ≡ None → bodies f.number ≡ Some bytes → LineDoes dest flavour outside queue i (F.Queued n) (with_new f bytes queue)
does_new dest flavour outside bodies queue i f n bytes h is_n none body =
    let same : bytes ≡ h.file.bytes = some_inj (sym body ∙ h.body) in
    subst (λ (x : FlowItem). LineDoes dest flavour outside queue x (F.Queued n) (with_new f bytes queue)) (sym h.item_is) (
      h.can,
      h.file,
      h.stands,
      subst (λ (e : NewEntry). number_at e.dest e.key queue ≡ None) h.is none,
      ap (λ (e : NewEntry). with_new e bytes queue) h.is ∙ (ap (λ (b : List ℕ). with_new (sent_entry dest flavour f.action f.source h.file f.number) b queue) same ∙ ap (λ (k : ℕ). with_new (sent_entry dest flavour f.action f.source h.file k) h.file.bytes queue) (sym is_n)),
    )

does_again : (dest : Address) (flavour : Flavour) (outside : OutFiles) (bodies : ℕ → Option (List ℕ)) (queue : List Entry) (i : FlowItem) (f : NewEntry) (n : ℕ)
    → IsFiled dest flavour i outside bodies f → number_at f.dest f.key queue ≡ Some n → LineDoes dest flavour outside queue i (F.Again n) queue
does_again dest flavour outside bodies queue i f n h stands =
    subst (λ (x : FlowItem). LineDoes dest flavour outside queue x (F.Again n) queue) (sym h.item_is)
    (h.can, (h.file, h.stands, subst (λ (e : NewEntry). number_at e.dest e.key queue ≡ Some n) h.is stands), refl)

does_fate : (dest : Address) (flavour : Flavour) (outside : OutFiles) (queue : List Entry) (i : FlowItem) (fate : Fate) → PlansFate outside i fate → LineDoes dest flavour outside queue i fate queue
does_fate dest flavour outside queue Passed F.Passed h = (refl, refl)
does_fate dest flavour outside queue Passed F.Missing h = absurd h
does_fate dest flavour outside queue Passed F.Over h = absurd h
does_fate dest flavour outside queue Passed (F.Queued n) h = absurd h
does_fate dest flavour outside queue Passed (F.Again n) h = absurd h
does_fate dest flavour outside queue (Send action path) F.Missing h = (h, refl)
does_fate dest flavour outside queue (Send action path) F.Over h = (h.0, h.1, refl)
does_fate dest flavour outside queue (Send action path) F.Passed h = absurd h
does_fate dest flavour outside queue (Send action path) (F.Queued n) h = absurd h
does_fate dest flavour outside queue (Send action path) (F.Again n) h = absurd h

lines_do : (dest : Address) (flavour : Flavour) (outside : OutFiles) (bodies : ℕ → Option (List ℕ)) (queue : List Entry) (is : List FlowItem) (ls : List Line) (fs : List NewEntry) (slots : List Slot) (after : List Entry)
    → Planned dest flavour outside bodies is ls fs → Enqueued bodies queue fs slots after → Lines dest flavour outside queue is (fates_in ls slots) after
lines_do dest flavour outside bodies queue [] [] [] [] after p e = e
lines_do dest flavour outside bodies queue [] [] [] (x ∷ slots) after p e = absurd e
lines_do dest flavour outside bodies queue [] [] (f ∷ fs) slots after p e = absurd p
lines_do dest flavour outside bodies queue [] (L.Is fate ∷ ls) fs slots after p e = absurd p
lines_do dest flavour outside bodies queue [] (L.File ∷ ls) fs slots after p e = absurd p
lines_do dest flavour outside bodies queue (i ∷ is) [] fs slots after p e = absurd p
lines_do dest flavour outside bodies queue (i ∷ is) (L.Is fate ∷ ls) fs slots after p e =
    (queue, does_fate dest flavour outside queue i fate p.0, lines_do dest flavour outside bodies queue is ls fs slots after p.1 e)
lines_do dest flavour outside bodies queue (i ∷ is) (L.File ∷ ls) [] slots after p e = absurd p
lines_do dest flavour outside bodies queue (i ∷ is) (L.File ∷ ls) (f ∷ fs) [] after p e = absurd e
lines_do dest flavour outside bodies queue (i ∷ is) (L.File ∷ ls) (f ∷ fs) (New n ∷ slots) after (h, p) (is_n, none, bytes, body, rest) =
    (with_new f bytes queue, does_new dest flavour outside bodies queue i f n bytes h is_n none body, lines_do dest flavour outside bodies (with_new f bytes queue) is ls fs slots after p rest)
lines_do dest flavour outside bodies queue (i ∷ is) (L.File ∷ ls) (f ∷ fs) (Again n ∷ slots) after (h, p) (stands, rest) =
    (queue, does_again dest flavour outside bodies queue i f n h stands, lines_do dest flavour outside bodies queue is ls fs slots after p rest)

-- the plan of a flow file
pub flow_plan : (dest : Address) (flavour : Flavour) (moment : ℕ) (own bytes : List ℕ) (s : Outbound) (bodies : ℕ → Option (List ℕ)) (lines : List Line) (files : List NewEntry)
    → s.takes own ≡ Some bytes → Planned dest flavour s.outside bodies (lines_of bytes) lines files → PlansTake (K.Flow flavour) dest moment own s bodies lines files
flow_plan dest flavour moment own bytes s bodies lines files stands p = record {
  bytes = bytes;
  stands = stands;
  brings = λ slots after e. lines_do dest flavour s.outside bodies s.queue (lines_of bytes) lines files slots after p e;
}

-- a packet or a request
whole_brings : (kind : Kind) (dest : Address) (moment : ℕ) (outside : OutFiles) (bytes : List ℕ) (queue : List Entry) (fate : Fate) (after : List Entry) → IsWhole kind → WholeDoes kind dest moment bytes queue fate after → Brings kind dest moment outside bytes queue (fate ∷ []) after
whole_brings (K.Flow flavour) dest moment outside bytes queue fate after whole h = absurd whole
whole_brings (K.Mail flavour) dest moment outside bytes queue fate after whole h = h
whole_brings K.Request dest moment outside bytes queue fate after whole h = h

pub whole_plan : (kind : Kind) (dest : Address) (moment n : ℕ) (own bytes : List ℕ) (s : Outbound) (bodies : ℕ → Option (List ℕ)) (f : NewEntry)
    → IsWhole kind → s.takes own ≡ Some bytes → length bytes ≤ MAX_SIZE → f ≡ whole_entry kind dest moment (length bytes) n → bodies n ≡ Some bytes → PlansTake kind dest moment own s bodies (L.File ∷ []) (f ∷ [])
whole_plan kind dest moment n own bytes s bodies f whole stands within is body =
    subst (λ (x : NewEntry). PlansTake kind dest moment own s bodies (L.File ∷ []) (x ∷ [])) (sym is) (record { bytes = bytes; stands = stands; brings = brings })
  where
    brings : (slots : List Slot) (after : List Entry) → Enqueued bodies s.queue (whole_entry kind dest moment (length bytes) n ∷ []) slots after → Brings kind dest moment s.outside bytes s.queue (fates_in (L.File ∷ []) slots) after
    brings [] after e = absurd e
    brings (New m ∷ []) after (is_n, none, b, staged, same) =
        whole_brings kind dest moment s.outside bytes s.queue (F.Queued m) after whole
        (subst (λ (k : ℕ). WholeDoes kind dest moment bytes s.queue (F.Queued k) after) (sym is_n)
        (within, none, same ∙ ap (λ (x : List ℕ). with_new (whole_entry kind dest moment (length bytes) n) x s.queue) (some_inj (sym staged ∙ body))))
    brings (New m ∷ slot ∷ slots) after (is_n, none, b, staged, more) = absurd more
    brings (Again m ∷ []) after (there, same) = whole_brings kind dest moment s.outside bytes s.queue (F.Again m) after whole (within, (n, there), same)
    brings (Again m ∷ slot ∷ slots) after (there, more) = absurd more

-- How files are queued is told by the queue and what is staged.

slot_from : NewEntry → Option ℕ → Slot
slot_from f (Some n) = Again n
slot_from f None = New f.number

queue_from : NewEntry → Option ℕ → Option (List ℕ) → List Entry → List Entry
queue_from f (Some n) body queue = queue
queue_from f None (Some bytes) queue = with_new f bytes queue
queue_from f None None queue = queue

slots_by : (ℕ → Option (List ℕ)) → List NewEntry → List Entry → List Slot
slots_by bodies [] queue = []
slots_by bodies (f ∷ fs) queue = slot_from f (number_at f.dest f.key queue) ∷ slots_by bodies fs (queue_from f (number_at f.dest f.key queue) (bodies f.number) queue)

slots_are : (bodies : ℕ → Option (List ℕ)) (queue : List Entry) (fs : List NewEntry) (slots : List Slot) (after : List Entry) → Enqueued bodies queue fs slots after → slots ≡ slots_by bodies fs queue
unfolding slot_from queue_from slots_by
slots_are bodies queue [] [] after e = refl
slots_are bodies queue [] (slot ∷ slots) after e = absurd e
slots_are bodies queue (f ∷ fs) [] after e = absurd e
slots_are bodies queue (f ∷ fs) (New n ∷ slots) after (is_n, none, bytes, body, rest) =
    ap (λ (k : ℕ). New k ∷ slots) is_n
    ∙ (ap (λ (xs : List Slot). New f.number ∷ xs) (slots_are bodies (with_new f bytes queue) fs slots after rest)
    ∙ (sym (ap (λ (b : Option (List ℕ)). slot_from f None ∷ slots_by bodies fs (queue_from f None b queue)) body)
    ∙ sym (ap (λ (o : Option ℕ). slot_from f o ∷ slots_by bodies fs (queue_from f o (bodies f.number) queue)) none)))
slots_are bodies queue (f ∷ fs) (Again n ∷ slots) after (there, rest) =
    ap (λ (xs : List Slot). Again n ∷ xs) (slots_are bodies queue fs slots after rest)
    ∙ sym (ap (λ (o : Option ℕ). slot_from f o ∷ slots_by bodies fs (queue_from f o (bodies f.number) queue)) there)

-- a take whose plan is queued
queued_so : (dest : Address) (moment : ℕ) (kind : Kind) (own : List ℕ) (bodies : ℕ → Option (List ℕ)) (lines : List Line) (files : List NewEntry) (slots : List Slot) (s t : Outbound)
    → IsTakeFor dest kind own → (p : PlansTake kind dest moment own s bodies lines files) → QueuesFiles bodies own files slots s t → Queues own p.bytes dest moment (fates_in lines slots) s t
queued_so dest moment kind own bodies lines files slots s t whom p q = record {
  kind = kind;
  named = whom.named;
  addressed = whom.addressed;
  stands = p.stands;
  first = q.first;
  brings = p.brings slots t.queue q.queue;
  recorded = q.recorded;
  takes = q.takes;
  outside = q.outside;
}

pub our_queue : (dest : Address) (moment : ℕ) (kind : Kind) (own : List ℕ) (bodies : ℕ → Option (List ℕ)) (lines : List Line) (files : List NewEntry) (result : Result (List Slot) StoreFault) (old new : TakeStand)
    → IsTakeFor dest kind own → ((s : Outbound) → told old ≡ Some s → PlansTake kind dest moment own s bodies lines files)
    → Kept (Tried result (QueuesFiles bodies own files)) (Settles result) old new
    → Ours dest moment (λ slots. (Some kind, fates_in lines slots) ∷ []) result old new
our_queue dest moment kind own bodies lines files result old new whom plans k = by result k
  where
    step : (s : Outbound) → PlansTake kind dest moment own s bodies lines files → List Slot → Step
    step s p slots = Queued own p.bytes dest moment (fates_in lines slots)

    at_ok : (slots : List Slot) (s : Outbound) → PlansTake kind dest moment own s bodies lines files → Leads (IsOurs dest moment None) (QueuesFiles bodies own files slots) (Unit {0}) ((Some kind, fates_in lines slots) ∷ []) s
    at_ok slots s p =
        One (step s p slots) (refl, refl) (λ a. ap (λ (o : Option Kind). (o, fates_in lines slots) ∷ []) whom.named)
        (λ a t q. queued_so dest moment kind own bodies lines files slots s t whom p q) (λ t q. inr (queued_so dest moment kind own bodies lines files slots s t whom p q))

    broken : (s : Outbound) (p : PlansTake kind dest moment own s bodies lines files) (t : Outbound) → ((slots : List Slot) × QueuesFiles bodies own files slots s t) → Queues own p.bytes dest moment (fates_in lines (slots_by bodies files s.queue)) s t
    broken s p t x =
        subst (λ (slots : List Slot). Queues own p.bytes dest moment (fates_in lines slots) s t) (slots_are bodies s.queue files x.0 t.queue x.1.queue) (queued_so dest moment kind own bodies lines files x.0 s t whom p x.1)

    at_disk : (s : Outbound) → PlansTake kind dest moment own s bodies lines files → Leads (IsOurs dest moment None) (Tried (Err Disk) (QueuesFiles bodies own files)) (SettledBy Disk) [] s
    at_disk s p =
        One (step s p (slots_by bodies files s.queue)) (refl, refl) (λ a. absurd a) (λ a. absurd a)
        (λ t h. ⊎_elim (λ (same : t ≡ s). inl same) (λ (x : (slots : List Slot) × QueuesFiles bodies own files slots s t). inr (broken s p t x)) h)

    by : (r : Result (List Slot) StoreFault) → Kept (Tried r (QueuesFiles bodies own files)) (Settles r) old new → Ours dest moment (λ slots. (Some kind, fates_in lines slots) ∷ []) r old new
    by (Ok slots) kept = kept_works (IsOurs dest moment None) (QueuesFiles bodies own files slots) (Unit {0}) ((Some kind, fates_in lines slots) ∷ []) old new (λ s tells. at_ok slots s (plans s tells)) kept
    by (Err Disk) kept = ([], kept_works (IsOurs dest moment None) (Tried (Err Disk) (QueuesFiles bodies own files)) (SettledBy Disk) [] old new (λ s tells. at_disk s (plans s tells)) kept)
    by (Err Read) kept = ([], kept_works (IsOurs dest moment None) (Tried (Err Read) (QueuesFiles bodies own files)) (SettledBy Read) [] old new (λ s tells. Nothing refl (λ t h. h)) kept)
    by (Err Full) kept = ([], kept_works (IsOurs dest moment None) (Tried (Err Full) (QueuesFiles bodies own files)) (SettledBy Full) [] old new (λ s tells. Nothing refl (λ t h. h)) kept)
    by (Err NoMemory) kept = ([], kept_works (IsOurs dest moment None) (Tried (Err NoMemory) (QueuesFiles bodies own files)) (SettledBy NoMemory) [] old new (λ s tells. Nothing refl (λ t h. h)) kept)

-- the plan still holds where nothing told changed, and of the files as they are handed on
pub plan_of_slice : (kind : Kind) (dest : Address) (moment : ℕ) (own : List ℕ) (before now : Option Outbound) (bodies : ℕ → Option (List ℕ)) (lines : List Line) (fs hs : List NewFile)
    → now ≡ before → hs ≡ fs → ((s : Outbound) → before ≡ Some s → PlansTake kind dest moment own s bodies lines (map entry_of fs)) → (s : Outbound) → now ≡ Some s → PlansTake kind dest moment own s bodies lines (map entry_of hs)
plan_of_slice kind dest moment own before now bodies lines fs hs same files plans s is =
    subst (λ (xs : List NewFile). PlansTake kind dest moment own s bodies lines (map entry_of xs)) (sym files) (plans s (sym same ∙ is))

pub fates_are : (fates : List Fate) (ls lines : List Line) (ss slots : List SlotOf) → fates ≡ fates_in ls (map slot_of ss) → ls ≡ lines → ss ≡ slots → fates ≡ fates_in lines (map slot_of slots)
fates_are fates ls lines ss slots is same_lines same_slots = is ∙ (ap (λ (x : List Line). fates_in x (map slot_of ss)) same_lines ∙ ap (λ (x : List SlotOf). fates_in lines (map slot_of x)) same_slots)
