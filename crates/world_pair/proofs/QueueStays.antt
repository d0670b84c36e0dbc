-- What is queued stays queued, and what is settled stays settled, in every life of a node.
use Rattle.std.proofs.Common.{◌≡◌, ◌⊎◌, ℕ, Bool, true, false, ◌==◌, if◌then◌else◌, List, [], ◌∷◌, ◌++◌, map, refl, sym, ap, ◌∙◌, subst, inl, inr}
use Rattle.ftn_addr.specs.Key.{Key}
use Rattle.node_model.specs.Lists.{Member}
use Rattle.node_model.specs.Items.{Entry, Done}
use Rattle.node_model.specs.Durable.{Durable, done_entry, acted_entry}
use Rattle.node_model.specs.Node.{Session, Node, session_at, hold_in}
use Rattle.node_model.specs.Rows.{FileAnswer, Have, Refuse, Elsewhere, Go, Whole, From, Late, FileMade, LeaveRow, grown, unheld, released}
use Rattle.node_model.specs.SendRows.{NewFile, Slot, Enqueued, No_more, Stands, Fresh, live_entry}
use Rattle.node_model.specs.Calls.{Call, Answer, Fault, Queue_call, Knock_call, Open_call, Offer_call, Read_call, Got_call, Skip_call, File_call, Data_call, Leave_call, Act_call, Give_call, Queued, Let_in, Busy, Begun, Offered, Nothing, Came, Acted, Given, Held, Settled, Filed, More, Whole_now, Refused, Disk, Read, Full, No_memory, Made, NotMade, Unmade, NodeStep, Passes, Before_it, Marked, After_it}
use Rattle.node_model.specs.Lives.{Happening, Steps, Stops, Stops_inside, Happens, Lives}
use Rattle.world_pair.specs.Nodes.{SameEntry, QueueStays}
use Rattle.world_pair.proofs.Quiet.{queue_of_mark_any, queue_at_stride}

-- Entries.

same_entry : (e : Entry) → SameEntry e e
same_entry e = record { number = refl; dest = refl; key = refl; body = inl refl }

same_then : (e f g : Entry) → SameEntry e f → SameEntry f g → SameEntry e g
same_then e f g a b =
    record { number = b.number ∙ a.number; dest = b.dest ∙ a.dest; key = b.key ∙ a.key; body = body a.body b.body }
  where
    body : (f.body ≡ e.body) ⊎ (f.body ≡ Done) → (g.body ≡ f.body) ⊎ (g.body ≡ Done) → (g.body ≡ e.body) ⊎ (g.body ≡ Done)
    body (inl x) (inl y) = inl (y ∙ x)
    body (inr x) (inl y) = inr (y ∙ x)
    body x (inr y) = inr y

done_same : (number : ℕ) (e : Entry) → SameEntry e (done_entry number e)
done_same number e = go (e.number == number)
  where
    go : (b : Bool) → SameEntry e (if b then record e { body = Done } else e)
    go true = record { number = refl; dest = refl; key = refl; body = inr refl }
    go false = same_entry e

acted_same : (number : ℕ) (e : Entry) → SameEntry e (acted_entry number e)
acted_same number e = go (e.number == number)
  where
    go : (b : Bool) → SameEntry e (if b then record e { acted = true } else e)
    go true = record { number = refl; dest = refl; key = refl; body = inl refl }
    go false = same_entry e

-- Queues.

pub queue_self : (es : List Entry) → QueueStays es es
queue_self [] = tt
queue_self (e ∷ es) = (same_entry e, queue_self es)

queue_map : (f : Entry → Entry) → ((e : Entry) → SameEntry e (f e)) → (es : List Entry) → QueueStays es (map f es)
queue_map f same [] = tt
queue_map f same (e ∷ es) = (same e, queue_map f same es)

queue_push : (es : List Entry) (last : Entry) → QueueStays es (es ++ last ∷ [])
queue_push [] last = tt
queue_push (e ∷ es) last = (same_entry e, queue_push es last)

pub queue_then : (es fs gs : List Entry) → QueueStays es fs → QueueStays fs gs → QueueStays es gs
queue_then [] fs gs a b = tt
queue_then (e ∷ es) [] gs a b = absurd a
queue_then (e ∷ es) (f ∷ fs) [] a b = absurd b
queue_then (e ∷ es) (f ∷ fs) (g ∷ gs) a b = (same_then e f g a.0 b.0, queue_then es fs gs a.1 b.1)

pub queue_same : (old new : List Entry) → new ≡ old → QueueStays old new
queue_same old new same = subst (QueueStays old) (sym same) (queue_self old)

pub enqueued_stays : (files : List NewFile) (slots : List Slot) (old new : List Entry) → Enqueued files slots old new → QueueStays old new
enqueued_stays files slots old new No_more = queue_self old
enqueued_stays files slots old new (Stands {files = fs} {slots = ss} {old = o} {new = w} e there again rest) = enqueued_stays fs ss o w rest
enqueued_stays files slots old new (Fresh {f = f} {files = fs} {slots = ss} {old = o} {new = w} number fresh above rest) =
    queue_then o (o ++ live_entry number f ∷ []) w (queue_push o (live_entry number f)) (enqueued_stays fs ss (o ++ live_entry number f ∷ []) w rest)

-- where an entry stands later
pub still_queued : (es fs : List Entry) (e : Entry) → QueueStays es fs → Member e es → (f : Entry) × Member f fs × SameEntry e f
still_queued [] fs e stays there = absurd there
still_queued (x ∷ es) [] e stays there = absurd stays
still_queued (x ∷ es) (y ∷ fs) e stays (inl same) = (y, inl refl, subst (λ z. SameEntry z y) (sym same) stays.0)
still_queued (x ∷ es) (y ∷ fs) e stays (inr there) = let r = still_queued es fs e stays.1 there in (r.0, inr r.1, r.2)

-- A step.

kept : (n m : Node) → m.state.queue ≡ n.state.queue → QueueStays n.state.queue m.state.queue
kept n m same = queue_same n.state.queue m.state.queue same

same_node : (n m x : Node) → m ≡ x → x.state.queue ≡ n.state.queue → QueueStays n.state.queue m.state.queue
same_node n m x is same = kept n m (ap (λ (y : Node). y.state.queue) is ∙ same)

file_queue : (seat : ℕ) (s : Session) (key : Key) (answer : FileAnswer) (n new : Node) → FileMade seat s key answer n new → new.state.queue ≡ n.state.queue
file_queue seat s key Have n new m = ap (λ (y : Node). y.state.queue) m
file_queue seat s key Refuse n new m = ap (λ (y : Node). y.state.queue) m
file_queue seat s key Elsewhere n new m = ap (λ (y : Node). y.state.queue) m
file_queue seat s key Go n new m = ap (λ (y : Node). y.state.queue) m.2
file_queue seat s key Whole n new m = ap (λ (y : Node). y.state.queue) m.2
file_queue seat s key (From place) n new m = ap (λ (y : Node). y.state.queue) m.2
file_queue seat s key Late n new m = ap (λ (y : Node). y.state.queue) m

leave_queue : (seat : ℕ) (old new : Node) → LeaveRow seat old new → QueueStays old.state.queue new.state.queue
leave_queue seat old new (inl m) = kept old new (ap (λ (y : Node). y.state.queue) m.after ∙ queue_of_mark_any m.session.hold old.state)
leave_queue seat old new (inr m) = same_node old new _ m.1 refl

pub made_queue : (seat : ℕ) (old new : Node) (call : Call) (answer : Answer) → Made seat old call answer new → QueueStays old.state.queue new.state.queue
made_queue seat old new (Queue_call files taken answered) (Queued slots) m =
    subst (QueueStays old.state.queue) (ap (λ (y : Node). y.state.queue) (sym m.after)) (enqueued_stays files slots old.state.queue m.queue m.queued)
made_queue seat old new (Knock_call role) Let_in m = same_node old new _ m.after refl
made_queue seat old new (Knock_call role) Busy m = same_node old new _ m.after refl
made_queue seat old new Offer_call (Offered number key) m = same_node old new _ m.3.after refl
made_queue seat old new Offer_call Nothing m = same_node old new _ m.after refl
made_queue seat old new (Read_call place room) (Came bytes) m = same_node old new _ m.after refl
made_queue seat old new (Got_call number) Settled m =
    subst (QueueStays old.state.queue) (ap (λ (y : Node). y.state.queue) (sym m.after)) (queue_map (done_entry number) (done_same number) old.state.queue)
made_queue seat old new (Skip_call number) Settled m = same_node old new _ m.after refl
made_queue seat old new (Act_call dest) (Acted number) m =
    subst (QueueStays old.state.queue) (ap (λ (y : Node). y.state.queue) (sym m.after)) (queue_map (acted_entry number) (acted_same number) old.state.queue)
made_queue seat old new (Act_call dest) Nothing m = same_node old new _ m.after refl
made_queue seat old new Give_call (Given number) m = same_node old new _ m.after refl
made_queue seat old new Give_call (Held number) m = same_node old new _ m.after refl
made_queue seat old new Give_call Nothing m = same_node old new _ m.after refl
made_queue seat old new (Open_call role peers secure moment) (Begun number) m = same_node old new _ m.1.after refl
made_queue seat old new (File_call key offset) (Filed answer) m =
    kept old new (file_queue seat (unheld m.session) key answer (released seat m.session old) new m.made ∙ queue_of_mark_any m.session.hold old.state)
made_queue seat old new (Data_call bytes) More m = kept old new (ap (λ (y : Node). y.state.queue) m.after ∙ queue_at_stride (grown m.hold bytes) old.state)
made_queue seat old new (Data_call bytes) Whole_now m = same_node old new _ m.after refl
made_queue seat old new Leave_call Settled m = leave_queue seat old new m
made_queue seat old new call answer m = absurd m

unmade_queue : (seat fulls : ℕ) (old : Node) (call : Call) (new : Node) → Unmade seat fulls old call new → QueueStays old.state.queue new.state.queue
unmade_queue seat fulls old (File_call key offset) new u = kept old new (ap (λ (y : Node). y.state.queue) u.after ∙ queue_of_mark_any u.session.hold old.state)
unmade_queue seat fulls old (Queue_call files taken answered) new u = same_node old new _ u.after refl
unmade_queue seat fulls old call new u = same_node old new _ u refl

passes_queue : (seat : ℕ) (old : Node) (call : Call) (d : Durable) → Passes seat old call d → QueueStays old.state.queue d.queue
passes_queue seat old call d (Before_it is) = queue_same old.state.queue d.queue (ap (λ (x : Durable). x.queue) is)
passes_queue seat old call d (Marked unbroken first is) = queue_same old.state.queue d.queue (ap (λ (x : Durable). x.queue) is ∙ queue_of_mark_any (hold_in (session_at old seat)) old.state)
passes_queue seat old call d (After_it unbroken answer new made is) = subst (λ (x : Durable). QueueStays old.state.queue x.queue) (sym is) (made_queue seat old new call answer made)

refused_queue : (seat : ℕ) (old : Node) (call : Call) (fault : Fault) (new : Node) → NotMade seat old call fault new → QueueStays old.state.queue new.state.queue
refused_queue seat old call (Disk count) new (may, inl same) = same_node old new _ same.1 refl
refused_queue seat old call (Disk count) new (may, inr b) = passes_queue seat old call new.state b.passes
refused_queue seat old call (Read count) new r = same_node old new _ r.3 refl
refused_queue seat old call Full new r = unmade_queue seat _ old call new r.2
refused_queue seat old call No_memory new r = unmade_queue seat _ old call new r.2

step_queue : (seat : ℕ) (old : Node) (call : Call) (answer : Answer) (new : Node) → NodeStep seat old call answer new → QueueStays old.state.queue new.state.queue
step_queue seat old call (Refused fault) new r = refused_queue seat old call fault new r
step_queue seat old call answer new m = made_queue seat old new call answer m.1

-- A life.

happens_queue : (old : Node) (e : Happening) (new : Node) → Happens old e new → QueueStays old.state.queue new.state.queue
happens_queue old (Steps seat call answer) new step = step_queue seat old call answer new step
happens_queue old (Stops opening) new (opens, is) = same_node old new _ is refl
happens_queue old (Stops_inside seat call left opening) new (passes, opens, is) =
    queue_then old.state.queue left.queue new.state.queue (passes_queue seat old call left passes) (queue_same left.queue new.state.queue (ap (λ (n : Node). n.state.queue) is))

pub life_queue : (old : Node) (es : List Happening) (new : Node) → Lives old es new → QueueStays old.state.queue new.state.queue
life_queue old [] new same = same_node old new _ same refl
life_queue old (e ∷ es) new (mid, happens, rest) =
    queue_then old.state.queue mid.state.queue new.state.queue (happens_queue old e mid happens) (life_queue mid es new rest)
