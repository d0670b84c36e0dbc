-- Every step of a call of no session is an event.
use Rattle.std.proofs.Common.{suc, ◌≡◌, ◌≢◌, ◌⊎◌, ℕ, ◌∷◌, ◌++◌, Option, Some, map, refl, sym, ap, ◌∙◌, subst, inl, inr, ⊎_elim}
use Rattle.node_model.specs.Durable.{Durable}
use Rattle.node_model.specs.Node.{Session, Node, Seat, session_at, hold_in}
use Rattle.node_model.specs.Rows.{mark_any, one_busy_more}
use Rattle.node_model.specs.Calls.{Call, Answer, Queue_call, Knock_call, Open_call, Offer_call, Read_call, Got_call, Skip_call, File_call, Data_call, Leave_call, Act_call, Give_call, Queued, Begun, Settled, Let_in, Busy, Acted, Given, Held, Nothing, Refused, Disk, Read, Full, No_memory, Made, NodeStep, Breaks as Broke_in, Passes, Before_it, Marked, After_it, marked_first}
use Rattle.node_model.proofs.Lists.{off, decide_line, updated_at}
use Rattle.node_model.proofs.Moves.{put_at, put_apart}
use Rattle.world_pair.specs.World.{LineEnd, opened, gone, at_line, with_end, Opens, Leaves, Leaves_broken, Place, given_file, given_by, ActsAlone, Still, Queues, Acts, Gives, Idles, Breaks, Breaks_behind}
use Rattle.world_pair.specs.FromDesk.{IsEvent, CallsAreEvents, OpeningsAreEvents, HasLeft, LeavesAreEvents}
use Rattle.world_pair.proofs.Events.{still_same}

-- a step that changes nothing of this
idles : (me peer : Place) (seat : ℕ) (call : Call) (answer : Answer) (n : Node) → NodeStep seat me.node call answer n → Still me.node n → IsEvent me peer n
idles me peer seat call answer n step still = (record me { node = n }, Idles seat call answer n step still refl refl, refl)

busy_still : (seat : ℕ) (n m : Node) → m ≡ one_busy_more seat n → Still n m
busy_still seat n m e =
    record { state = ap (λ (x : Node). x.state) e; settings = ap (λ (x : Node). x.settings) e; broken = ap (λ (x : Node). x.broken) e; sessions = sessions }
  where
    sessions : (k : ℕ) → session_at m k ≡ session_at n k
    sessions k = ap (λ (y : Node). session_at y k) e ∙ ⊎_elim
        (λ (same : k ≡ seat). ap (λ (j : ℕ). session_at (one_busy_more seat n) j) same ∙ (ap (λ (x : Seat). x.session) (put_at seat _ n.seats) ∙ ap (λ (j : ℕ). session_at n j) (sym same)))
        (λ (other : k ≢ seat). ap (λ (x : Seat). x.session) (put_apart seat _ n.seats k other))
        (decide_line k seat)

-- the node with other counts
counts_still : (n m x : Node) → m ≡ x → x.state ≡ n.state → x.settings ≡ n.settings → x.broken ≡ n.broken → ((k : ℕ) → session_at x k ≡ session_at n k) → Still n m
counts_still n m x e state settings broken sessions =
    record { state = ap (λ (y : Node). y.state) e ∙ state; settings = ap (λ (y : Node). y.settings) e ∙ settings; broken = ap (λ (y : Node). y.broken) e ∙ broken; sessions = λ k. ap (λ (y : Node). session_at y k) e ∙ sessions k }

-- the disk failed in a call that first marks nothing
broke : (me peer : Place) (seat : ℕ) (call : Call) (count : ℕ) (n : Node) → NodeStep seat me.node call (Refused (Disk count)) n → Broke_in seat me.node call count n
    → ((d : Durable) → Passes seat me.node call d → (d ≡ me.node.state) ⊎ ((answer : Answer) × (x : Node) × Made seat me.node call answer x × (d ≡ x.state) × ActsAlone call))
    → IsEvent me peer n
broke me peer seat call count n step b cases = ⊎_elim
    (λ (before : n.state ≡ me.node.state). (record me { node = n }, Breaks seat call count n step (inl before) refl refl, refl))
    (λ (after : (answer : Answer) × (x : Node) × Made seat me.node call answer x × (n.state ≡ x.state) × ActsAlone call). (record me { node = n; queued = me.queued ++ given_by call }, Breaks_behind seat call after.0 count after.1 n after.4 b.unbroken after.2 step after.3 refl refl, refl))
    (cases n.state b.passes)

disk : (me peer : Place) (seat : ℕ) (call : Call) (count : ℕ) (n : Node) → NodeStep seat me.node call (Refused (Disk count)) n
    → ((d : Durable) → Passes seat me.node call d → (d ≡ me.node.state) ⊎ ((answer : Answer) × (x : Node) × Made seat me.node call answer x × (d ≡ x.state) × ActsAlone call))
    → IsEvent me peer n
disk me peer seat call count n (may, inl r) cases = idles me peer seat call (Refused (Disk count)) n (may, inl r) (still_same me.node n r.1)
disk me peer seat call count n (may, inr b) cases = broke me peer seat call count n (may, inr b) b cases

pub calls_are_events : CallsAreEvents
calls_are_events me peer seat (Queue_call files taken answered) (Queued slots) n o step = (record me { node = n; queued = me.queued ++ map given_file files }, Queues seat files taken answered slots n step refl refl, refl)
calls_are_events me peer seat (Queue_call files taken answered) (Refused (Disk count)) n o step = disk me peer seat (Queue_call files taken answered) count n step cases
  where
    cases : (d : Durable) → Passes seat me.node (Queue_call files taken answered) d → (d ≡ me.node.state) ⊎ ((answer : Answer) × (x : Node) × Made seat me.node (Queue_call files taken answered) answer x × (d ≡ x.state) × ActsAlone (Queue_call files taken answered))
    cases d (Before_it e) = inl e
    cases d (Marked unbroken first e) = off (sym first)
    cases d (After_it unbroken answer x made e) = inr (answer, x, made, e, tt)
calls_are_events me peer seat (Queue_call files taken answered) (Refused (Read count)) n o step = absurd step.0
calls_are_events me peer seat (Queue_call files taken answered) (Refused Full) n o step = idles me peer seat (Queue_call files taken answered) (Refused Full) n step (counts_still me.node n _ step.2.after refl refl refl (λ _. refl))
calls_are_events me peer seat (Queue_call files taken answered) (Refused No_memory) n o step = idles me peer seat (Queue_call files taken answered) (Refused No_memory) n step (counts_still me.node n _ step.2.after refl refl refl (λ _. refl))
calls_are_events me peer seat (Queue_call files taken answered) answer n o step = absurd step.1
calls_are_events me peer seat (Knock_call role) Let_in n o step = idles me peer seat (Knock_call role) Let_in n step (still_same me.node n step.1.after)
calls_are_events me peer seat (Knock_call role) Busy n o step = idles me peer seat (Knock_call role) Busy n step (busy_still seat me.node n step.1.after)
calls_are_events me peer seat (Knock_call role) (Refused (Disk count)) n o step = disk me peer seat (Knock_call role) count n step cases
  where
    made_state : (answer : Answer) (x : Node) → Made seat me.node (Knock_call role) answer x → x.state ≡ me.node.state
    made_state Let_in x made = ap (λ (y : Node). y.state) made.after
    made_state Busy x made = ap (λ (y : Node). y.state) made.after
    made_state answer x made = absurd made

    cases : (d : Durable) → Passes seat me.node (Knock_call role) d → (d ≡ me.node.state) ⊎ ((answer : Answer) × (x : Node) × Made seat me.node (Knock_call role) answer x × (d ≡ x.state) × ActsAlone (Knock_call role))
    cases d (Before_it e) = inl e
    cases d (Marked unbroken first e) = off (sym first)
    cases d (After_it unbroken answer x made e) = inl (e ∙ made_state answer x made)
calls_are_events me peer seat (Knock_call role) (Refused (Read count)) n o step = absurd step.0
calls_are_events me peer seat (Knock_call role) (Refused Full) n o step = absurd step.1
calls_are_events me peer seat (Knock_call role) (Refused No_memory) n o step = absurd step.1
calls_are_events me peer seat (Knock_call role) answer n o step = absurd step.1
calls_are_events me peer seat (Act_call dest) (Acted number) n o step = (record me { node = n }, Acts seat number dest n step refl refl, refl)
calls_are_events me peer seat (Act_call dest) Nothing n o step = idles me peer seat (Act_call dest) Nothing n step (still_same me.node n step.1.after)
calls_are_events me peer seat (Act_call dest) (Refused (Disk count)) n o step = disk me peer seat (Act_call dest) count n step cases
  where
    cases : (d : Durable) → Passes seat me.node (Act_call dest) d → (d ≡ me.node.state) ⊎ ((answer : Answer) × (x : Node) × Made seat me.node (Act_call dest) answer x × (d ≡ x.state) × ActsAlone (Act_call dest))
    cases d (Before_it e) = inl e
    cases d (Marked unbroken first e) = off (sym first)
    cases d (After_it unbroken answer x made e) = inr (answer, x, made, e, tt)
calls_are_events me peer seat (Act_call dest) (Refused (Read count)) n o step = absurd step.0
calls_are_events me peer seat (Act_call dest) (Refused Full) n o step = idles me peer seat (Act_call dest) (Refused Full) n step (counts_still me.node n _ step.2 refl refl refl (λ _. refl))
calls_are_events me peer seat (Act_call dest) (Refused No_memory) n o step = idles me peer seat (Act_call dest) (Refused No_memory) n step (counts_still me.node n _ step.2 refl refl refl (λ _. refl))
calls_are_events me peer seat (Act_call dest) answer n o step = absurd step.1
calls_are_events me peer seat Give_call (Given number) n o step = (record me { node = n }, Gives seat number n step refl refl, refl)
calls_are_events me peer seat Give_call (Held number) n o step = idles me peer seat Give_call (Held number) n step (counts_still me.node n _ step.1.after refl refl refl (λ _. refl))
calls_are_events me peer seat Give_call Nothing n o step = idles me peer seat Give_call Nothing n step (still_same me.node n step.1.after)
calls_are_events me peer seat Give_call (Refused (Disk count)) n o step = disk me peer seat Give_call count n step cases
  where
    cases : (d : Durable) → Passes seat me.node Give_call d → (d ≡ me.node.state) ⊎ ((answer : Answer) × (x : Node) × Made seat me.node Give_call answer x × (d ≡ x.state) × ActsAlone Give_call)
    cases d (Before_it e) = inl e
    cases d (Marked unbroken first e) = off (sym first)
    cases d (After_it unbroken answer x made e) = inr (answer, x, made, e, tt)
calls_are_events me peer seat Give_call (Refused (Read count)) n o step = absurd step.0
calls_are_events me peer seat Give_call (Refused Full) n o step = absurd step.1
calls_are_events me peer seat Give_call (Refused No_memory) n o step = idles me peer seat Give_call (Refused No_memory) n step (counts_still me.node n _ step.2 refl refl refl (λ _. refl))
calls_are_events me peer seat Give_call answer n o step = absurd step.1
calls_are_events me peer seat (Open_call role peers secure moment) answer n o step = absurd o
calls_are_events me peer seat Offer_call answer n o step = absurd o
calls_are_events me peer seat (Read_call place room) answer n o step = absurd o
calls_are_events me peer seat (Got_call number) answer n o step = absurd o
calls_are_events me peer seat (Skip_call number) answer n o step = absurd o
calls_are_events me peer seat (File_call key offset) answer n o step = absurd o
calls_are_events me peer seat (Data_call bytes) answer n o step = absurd o
calls_are_events me peer seat Leave_call answer n o step = absurd o

pub openings_are_events : OpeningsAreEvents
openings_are_events me peer line seat role theirs secure moment (Begun number) n fresh some step =
    (at_line line (opened seat role (me.ends line)) n me, Opens line seat number n role theirs secure moment fresh some step refl refl, refl)
openings_are_events me peer line seat role theirs secure moment (Refused (Disk count)) n fresh some step = disk me peer seat (Open_call role (peer.first ∷ theirs) secure moment) count n step cases
  where
    made_state : (answer : Answer) (x : Node) → Made seat me.node (Open_call role (peer.first ∷ theirs) secure moment) answer x → x.state ≡ me.node.state
    made_state (Begun number) x made = ap (λ (y : Node). y.state) made.1.after
    made_state answer x made = absurd made

    cases : (d : Durable) → Passes seat me.node (Open_call role (peer.first ∷ theirs) secure moment) d → (d ≡ me.node.state) ⊎ ((answer : Answer) × (x : Node) × Made seat me.node (Open_call role (peer.first ∷ theirs) secure moment) answer x × (d ≡ x.state) × ActsAlone (Open_call role (peer.first ∷ theirs) secure moment))
    cases d (Before_it e) = inl e
    cases d (Marked unbroken first e) = off (sym first)
    cases d (After_it unbroken answer x made e) = inl (e ∙ made_state answer x made)
openings_are_events me peer line seat role theirs secure moment (Refused (Read count)) n fresh some step = absurd step.0
openings_are_events me peer line seat role theirs secure moment (Refused Full) n fresh some step = idles me peer seat (Open_call role (peer.first ∷ theirs) secure moment) (Refused Full) n step (counts_still me.node n _ step.2 refl refl refl (λ _. refl))
openings_are_events me peer line seat role theirs secure moment (Refused No_memory) n fresh some step = idles me peer seat (Open_call role (peer.first ∷ theirs) secure moment) (Refused No_memory) n step (counts_still me.node n _ step.2 refl refl refl (λ _. refl))
openings_are_events me peer line seat role theirs secure moment answer n fresh some step = absurd step.1

-- an end of a broken node leaves
leaves_broken : (me peer : Place) (line count : ℕ) → me.node.broken ≡ Some count → HasLeft line me peer me.node
leaves_broken me peer line count broken =
    record { events = 1; place = with_end line (gone (me.ends line)) me; occurring = (with_end line (gone (me.ends line)) me, Leaves_broken line count broken refl refl, refl); is = refl; left = ap (λ (e : LineEnd). e.seat) (updated_at me.ends line (gone (me.ends line))) }

-- what a leave passes is what it found, or that with the mark
pub leave_passes : (seat : ℕ) (n : Node) (d : Durable) → Passes seat n Leave_call d → (d ≡ n.state) ⊎ (d ≡ marked_first seat n)
leave_passes seat n d (Before_it e) = inl e
leave_passes seat n d (Marked unbroken first e) = off (sym first)
leave_passes seat n d (After_it unbroken answer x made e) = go answer made
  where
    go : (a : Answer) → Made seat n Leave_call a x → (d ≡ n.state) ⊎ (d ≡ marked_first seat n)
    go Settled (inl row) = inr (e ∙ (ap (λ (y : Node). y.state) row.after ∙ ap (λ (s : Option Session). mark_any (hold_in s) n.state) (sym row.has)))
    go Settled (inr row) = inl (e ∙ ap (λ (y : Node). y.state) row.1)
    go a none = absurd none

pub leaves_are_events : LeavesAreEvents
leaves_are_events me peer line seat Settled n sits step =
    record { events = 1; place = at_line line (gone (me.ends line)) n me; occurring = (at_line line (gone (me.ends line)) n me, Leaves line seat n sits step refl refl, refl); is = refl; left = ap (λ (e : LineEnd). e.seat) (updated_at me.ends line (gone (me.ends line))) }
leaves_are_events me peer line seat (Refused (Disk count)) n sits (may, inl r) = subst (HasLeft line me peer) (sym r.1) (leaves_broken me peer line count r.0)
leaves_are_events me peer line seat (Refused (Disk count)) n sits (may, inr b) =
    let mid : Place = record me { node = n } in
    let rest = leaves_broken mid peer line count b.broken in
    record { events = suc rest.events; place = rest.place; occurring = (mid, Breaks seat Leave_call count n (may, inr b) (leave_passes seat me.node n.state b.passes) refl refl, rest.occurring); is = rest.is; left = rest.left }
leaves_are_events me peer line seat (Refused (Read count)) n sits step = absurd step.0
leaves_are_events me peer line seat (Refused Full) n sits step = absurd step.1
leaves_are_events me peer line seat (Refused No_memory) n sits step = absurd step.1
leaves_are_events me peer line seat answer n sits step = absurd step.1
