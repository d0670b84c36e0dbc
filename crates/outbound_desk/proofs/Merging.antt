-- A row that queues files is so too from a node that is the same but for numbers that were drawn.
use Rattle.std.proofs.Common.{◌≡◌, ℕ, ◌+◌, ◌≤◌, List, [], ◌∷◌, Option, None, refl, sym, ◌∙◌, ap, subst, inl, inr, arith, le_refl}
use Rattle.std.proofs.lemmas.List.{append-nil}
use Rattle.node_model.specs.Durable.{Durable}
use Rattle.node_model.specs.Items.{Entry}
use Rattle.node_model.specs.Node.{Node}
use Rattle.node_model.specs.Calls.{After_it, Answer, Before_it, Call, Counts_alone, Disk, FindsFull, Full, IsQueue, Knows, KnownStep, Made, Marked, NodeStep, No_memory, Passes, Queue_call, Queued, Read, Refused, Tells}
use Rattle.node_model.specs.Images.{KnownPasses}
use Rattle.node_model.specs.SendRows.{Enqueued, Fresh, NewFile, No_more, QueueRow, Slot, Stands}
use Rattle.outbound_desk.specs.Answering.{MoreStaged}

module _ (seat s : ℕ) (a : Node) (more : a.staged ≤ s) (files : List NewFile) (taken answered : Option ℕ) where
  made_before : (answer : Answer) (c : Node) → Made seat (record a { staged = s }) (Queue_call files taken answered) answer c → Made seat a (Queue_call files taken answered) answer c
  made_before (Queued slots) c r =
      let risen = r.risen in
      record {
        queue = r.queue;
        sizes = r.sizes;
        queued = r.queued;
        room = r.room;
        staged = r.staged;
        numbers = r.numbers;
        risen = omega (arith, more, risen);
        few = r.few;
        after = r.after;
      }
  made_before answer c r = absurd r

  passes_before : (d : Durable) → Passes seat (record a { staged = s }) (Queue_call files taken answered) d → Passes seat a (Queue_call files taken answered) d
  passes_before d (Before_it is) = Before_it is
  passes_before d (Marked whole marks is) = Marked whole marks is
  passes_before d (After_it whole answer new made is) = After_it whole answer new (made_before answer new made) is

  step_before : a.broken ≡ None → (answer : Answer) (c : Node) → (answer ≡ Refused Full → FindsFull seat a (Queue_call files taken answered)) → NodeStep seat (record a { staged = s }) (Queue_call files taken answered) answer c → NodeStep seat a (Queue_call files taken answered) answer c
  step_before whole (Refused (Disk count)) c finds (skips, inl broken) = absurd (let b = broken.0 in cc)
  step_before whole (Refused (Disk count)) c finds (skips, inr b) = (
    skips,
    inr (record {
      unbroken = b.unbroken;
      rose = b.rose;
      passes = passes_before c.state b.passes;
      broken = b.broken;
      faults = b.faults;
      fulls = b.fulls;
      log = b.log;
      others = b.others;
      own = b.own;
      busy = b.busy;
      reads = b.reads;
      settings = b.settings;
      begun = b.begun;
    }),
  )
  step_before whole (Refused (Read count)) c finds r = absurd r.0
  step_before whole (Refused Full) c finds (unbroken, full, left) =
      let risen = left.risen in
      (unbroken, finds refl, record { staged = left.staged; risen = omega (arith, more, risen); after = left.after })
  step_before whole (Refused No_memory) c finds (unbroken, takes, left) =
      let risen = left.risen in
      (unbroken, takes, record { staged = left.staged; risen = omega (arith, more, risen); after = left.after })
  step_before whole (Queued slots) c finds (works, row) = (works, made_before (Queued slots) c row)
  step_before whole answer c finds r = absurd r.1

-- what is told of the row, from such a node
pub queue_before : (seat : ℕ) (a b c : Knows) (call : Call) (answer : Answer) → IsQueue call → MoreStaged a b → ((n m : Node) → a ≡ Tells n → b ≡ Tells m → (n.broken ≡ None) × (answer ≡ Refused Full → FindsFull seat n call)) → KnownStep seat b call answer c → KnownStep seat a call answer c
queue_before seat (Tells n) (Tells m) (Tells l) (Queue_call files taken answered) answer queues more told step =
    let t = told n m refl refl in
    step_before seat m.staged n more.1 files taken answered t.0 answer l t.1 (subst (λ (k : Node). NodeStep seat k (Queue_call files taken answered) answer l) more.0 step)
queue_before seat (Counts_alone c) (Counts_alone d) l call answer queues more told step = subst (λ (k : Knows). KnownStep seat k call answer l) (ap Counts_alone more) step
queue_before seat (Tells n) (Tells m) (Tells l) call answer queues more told step = absurd queues
queue_before seat (Tells n) (Tells m) (Counts_alone l) call answer queues more told step = absurd step
queue_before seat (Tells n) (Counts_alone d) c call answer queues more told step = absurd more
queue_before seat (Counts_alone x) (Tells m) c call answer queues more told step = absurd more

pub queue_passes : (seat : ℕ) (a b : Knows) (call : Call) (d : Durable) → IsQueue call → MoreStaged a b → KnownPasses seat b call d → KnownPasses seat a call d
queue_passes seat (Tells n) (Tells m) (Queue_call files taken answered) d queues more p =
    passes_before seat m.staged n more.1 files taken answered d (subst (λ (k : Node). Passes seat k (Queue_call files taken answered) d) more.0 p)
queue_passes seat (Counts_alone c) (Counts_alone b) call d queues more p = p
queue_passes seat (Tells n) (Tells m) call d queues more p = absurd queues
queue_passes seat (Tells n) (Counts_alone b) call d queues more p = absurd more
queue_passes seat (Counts_alone c) (Tells m) call d queues more p = absurd more

-- Staging more.

pub more_none : (k : Knows) → MoreStaged k k
more_none (Tells n) = (refl, le_refl _)
more_none (Counts_alone c) = refl

pub more_then : (a b c : Knows) → MoreStaged a b → MoreStaged b c → MoreStaged a c
more_then (Tells x) (Tells y) (Tells z) first second =
    let low = first.1 in
    let high = second.1 in
    (second.0 ∙ ap (λ (n : Node). record n { staged = z.staged }) first.0, omega (arith, low, high))
more_then (Counts_alone x) (Counts_alone y) (Counts_alone z) first second = second ∙ first
more_then (Tells x) (Tells y) (Counts_alone z) first second = absurd second
more_then (Tells x) (Counts_alone y) c first second = absurd first
more_then (Counts_alone x) (Tells y) c first second = absurd first
more_then (Counts_alone x) (Counts_alone y) (Tells z) first second = absurd second

no_slots : (files : List NewFile) (slots : List Slot) (old new : List Entry) → files ≡ [] → Enqueued files slots old new → slots ≡ []
no_slots files slots old new none No_more = refl
no_slots files slots old new none (Stands e there same rest) = absurd (cc)
no_slots files slots old new none (Fresh number new_one above rest) = absurd (cc)

same_queue : (old new : List Entry) → Enqueued [] [] old new → new ≡ old
same_queue old new No_more = refl

-- a row that queues no file stages at most
pub queues_none : (seat : ℕ) (a b : Node) → QueueRow seat [] None None [] a b → MoreStaged (Tells a) (Tells b)
queues_none seat a b r =
    let queue : r.queue ≡ a.state.queue = same_queue a.state.queue r.queue r.queued in
    let no_record : a.records + 0 ≡ a.records = omega arith in
    let is : b ≡ record a { staged = r.staged } = r.after ∙ (λ i. record a { state = record a.state { queue = queue i }; log = append-nil a.log i; records = no_record i; staged = r.staged }) in
    let staged : b.staged ≡ r.staged = ap (λ (n : Node). n.staged) is in
    let risen = r.risen in
    (is ∙ (λ i. record a { staged = sym staged i }), omega (arith, risen, staged))

-- and so is each state that such a row passes the node's
pub none_passes : (seat : ℕ) (a : Node) (d : Durable) → Passes seat a (Queue_call [] None None) d → d ≡ a.state
none_passes seat a d (Before_it is) = is
none_passes seat a d (Marked whole marks is) = absurd (cc)
none_passes seat a d (After_it whole answer new made is) = go answer made
  where
    go : (answer : Answer) → Made seat a (Queue_call [] None None) answer new → d ≡ a.state
    go (Queued []) made = is ∙ ap (λ (n : Node). n.state) (queues_none seat a new made).0
    go (Queued (slot ∷ slots)) made = absurd (let none : slot ∷ slots ≡ [] = no_slots [] (slot ∷ slots) a.state.queue made.queue refl made.queued in cc)
    go answer made = absurd made
