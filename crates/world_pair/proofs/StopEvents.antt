-- A stop inside a call is an event, or a few.
use Rattle.std.proofs.Common.{◌≡◌, ◌⊎◌, ℕ, List, [], ◌∷◌, None, refl, sym, ap, ◌∙◌, subst, inl, inr, ⊎_elim}
use Rattle.node_model.specs.Durable.{Durable}
use Rattle.node_model.specs.Node.{Node, Opening}
use Rattle.node_model.specs.Calls.{Call, Answer, Event, one, Queue_call, Knock_call, Open_call, Offer_call, Read_call, Got_call, Skip_call, File_call, Data_call, Leave_call, Act_call, Give_call, Queued, Let_in, Busy, Acted, Given, Held, Nothing, Begun, Made, NodeStep, Passes, Before_it, Marked, After_it, marked_first}
use Rattle.node_model.specs.Lives.{OpensWith}
use Rattle.node_model.specs.Talk.{Message, File, Data, Got, Get, Skip, End, part_at, Verdict, Nothing_held, Drops, Exceeds, Fits, Settles, Passes_got, Skips, Passes_skip, Resends, Passes_get, TakeRow, Reads, Fills, Awaits, Asks, TurnRow, Finishes, Rests, Gives}
use Rattle.world_pair.specs.Course.{Course}
use Rattle.world_pair.specs.World.{Place, with_state, after_stop, with_end, with_outbox, Occurs, Stops, Stops_at_mark, Stops_after_take}
use Rattle.world_pair.specs.FromDesk.{OfNoSession, IsEvent, Leads, stopped_with, StopsAreEvents, TakesStop, TurnsStop}
use Rattle.world_pair.proofs.CallEvents.{calls_are_events, leave_passes}
use Rattle.world_pair.proofs.FromDesk.{read_state, offer_state}
use Rattle.world_pair.proofs.Faults.{Fault, Nothing_made, Mark_made, All_made, filed_fault, data_fault, got_fault, skip_fault}

-- a stop with nothing changed
plain : (me peer : Place) (left : Durable) (o : Opening) → left ≡ me.node.state → OpensWith left o → IsEvent me peer (stopped_with left o me.node)
plain me peer left o same fits =
    (after_stop o me.node me, Stops o (subst (λ (d : Durable). OpensWith d o) same fits) refl refl, ap (λ (d : Durable). stopped_with d o me.node) (sym same))

-- a stop behind the mark
at_mark : (me peer : Place) (seat : ℕ) (left : Durable) (o : Opening) → me.node.broken ≡ None → left ≡ marked_first seat me.node → OpensWith left o → IsEvent me peer (stopped_with left o me.node)
at_mark me peer seat left o unbroken same fits =
    (after_stop o (with_state (marked_first seat me.node) me.node) me, Stops_at_mark seat o unbroken (subst (λ (d : Durable). OpensWith d o) same fits) refl refl, ap (λ (d : Durable). stopped_with d o me.node) (sym same))

one_event : (me peer : Place) (n : Node) → IsEvent me peer n → Leads me peer n
one_event me peer n (me', event, is) = record { events = 1; place = me'; occurring = (me', event, refl); is = is }

-- behind all that a call of no session changes: that call, and then a stop
behind : (me peer : Place) (seat : ℕ) (call : Call) (answer : Answer) (x : Node) (left : Durable) (o : Opening) → OfNoSession call → NodeStep seat me.node call answer x → left ≡ x.state → OpensWith left o → Leads me peer (stopped_with left o me.node)
behind me peer seat call answer x left o alone step same fits = go (calls_are_events me peer seat call answer x alone step)
  where
    go : IsEvent me peer x → Leads me peer (stopped_with left o me.node)
    go (mid, event, is) =
        let kept : left ≡ mid.node.state = same ∙ ap (λ (y : Node). y.state) (sym is) in
        record { events = 2; place = after_stop o mid.node mid; occurring = (mid, event, (after_stop o mid.node mid, Stops o (subst (λ (d : Durable). OpensWith d o) kept fits) refl refl, refl)); is = ap (λ (d : Durable). stopped_with d o me.node) (sym kept) }

pub stops_are_events : StopsAreEvents
stops_are_events me peer seat call left o out (Before_it same) fits = one_event me peer _ (plain me peer left o same fits)
stops_are_events me peer seat call left o out (Marked unbroken first same) fits = one_event me peer _ (at_mark me peer seat left o unbroken same fits)
stops_are_events me peer seat (Open_call role peers secure moment) left o out (After_it unbroken answer x made same) fits = one_event me peer _ (plain me peer left o (same ∙ go answer made) fits)
  where
    go : (a : Answer) → Made seat me.node (Open_call role peers secure moment) a x → x.state ≡ me.node.state
    go (Begun number) row = ap (λ (y : Node). y.state) row.1.after
    go a row = absurd row
stops_are_events me peer seat Leave_call left o out (After_it unbroken answer x made same) fits =
    one_event me peer _ (⊎_elim
    (λ (before : left ≡ me.node.state). plain me peer left o before fits)
    (λ (marked : left ≡ marked_first seat me.node). at_mark me peer seat left o unbroken marked fits)
    (leave_passes seat me.node left (After_it unbroken answer x made same)))
stops_are_events me peer seat (Queue_call files taken answered) left o out (After_it unbroken (Queued slots) x made same) fits = behind me peer seat (Queue_call files taken answered) (Queued slots) x left o tt (inl unbroken, made) same fits
stops_are_events me peer seat (Queue_call files taken answered) left o out (After_it unbroken answer x made same) fits = absurd made
stops_are_events me peer seat (Knock_call role) left o out (After_it unbroken Let_in x made same) fits = behind me peer seat (Knock_call role) Let_in x left o tt (inl unbroken, made) same fits
stops_are_events me peer seat (Knock_call role) left o out (After_it unbroken Busy x made same) fits = behind me peer seat (Knock_call role) Busy x left o tt (inl unbroken, made) same fits
stops_are_events me peer seat (Knock_call role) left o out (After_it unbroken answer x made same) fits = absurd made
stops_are_events me peer seat (Act_call dest) left o out (After_it unbroken (Acted number) x made same) fits = behind me peer seat (Act_call dest) (Acted number) x left o tt (inl unbroken, made) same fits
stops_are_events me peer seat (Act_call dest) left o out (After_it unbroken Nothing x made same) fits = behind me peer seat (Act_call dest) Nothing x left o tt (inl unbroken, made) same fits
stops_are_events me peer seat (Act_call dest) left o out (After_it unbroken answer x made same) fits = absurd made
stops_are_events me peer seat Give_call left o out (After_it unbroken (Given number) x made same) fits = behind me peer seat Give_call (Given number) x left o tt (inl unbroken, made) same fits
stops_are_events me peer seat Give_call left o out (After_it unbroken (Held number) x made same) fits = behind me peer seat Give_call (Held number) x left o tt (inl unbroken, made) same fits
stops_are_events me peer seat Give_call left o out (After_it unbroken Nothing x made same) fits = behind me peer seat Give_call Nothing x left o tt (inl unbroken, made) same fits
stops_are_events me peer seat Give_call left o out (After_it unbroken answer x made same) fits = absurd made
stops_are_events me peer seat Offer_call left o out (After_it unbroken answer x made same) fits = absurd out
stops_are_events me peer seat (Read_call place room) left o out (After_it unbroken answer x made same) fits = absurd out
stops_are_events me peer seat (Got_call number) left o out (After_it unbroken answer x made same) fits = absurd out
stops_are_events me peer seat (Skip_call number) left o out (After_it unbroken answer x made same) fits = absurd out
stops_are_events me peer seat (File_call key offset) left o out (After_it unbroken answer x made same) fits = absurd out
stops_are_events me peer seat (Data_call bytes) left o out (After_it unbroken answer x made same) fits = absurd out

-- Rows.

same_call : (c d : Call) (a b : Answer) (es : List Event) → es ≡ one c a → es ≡ one d b → d ≡ c
same_call c d a b es e f = ap (λ (x : Event). x.call) (first (record { call = d; answer = b }) (record { call = c; answer = a }) (sym f ∙ e))
  where
    first : (x y : Event) → x ∷ [] ≡ y ∷ [] → x ≡ y
    first x y same = cc

-- what a stop inside the call of a take leaves
by_passes : (seat : ℕ) (n : Node) (t : Course) (d : Durable) (message : Message) (call : Call) → ((a : Answer) (x : Node) → n.broken ≡ None → Made seat n call a x → d ≡ x.state → Fault seat n t d message) → Passes seat n call d → Fault seat n t d message
by_passes seat n t d message call all (Before_it e) = Nothing_made e
by_passes seat n t d message call all (Marked b first e) = Mark_made e
by_passes seat n t d message call all (After_it b a x made e) = all a x b made e

in_call : (seat : ℕ) (n : Node) (d : Durable) (c call : Call) → c ≡ call → Passes seat n call d → Passes seat n c d
in_call seat n d c call same passes = subst (λ (x : Call). Passes seat n x d) (sym same) passes

no_call : {A : Type 0} (es : List Event) (call : Call) (answer : Answer) → es ≡ [] → es ≡ one call answer → A
no_call es call answer none is = absurd (go (sym none ∙ is))
  where
    go : [] ≡ one call answer → ⊥
    go e = absurd (cc)

take_leaves : (seat : ℕ) (n : Node) (t : Course) (d : Durable) (message : Message) (es : List Event) (v : Verdict) (call : Call) (answer : Answer) → TakeRow (part_at n seat) t.now message es v → es ≡ one call answer → Passes seat n call d → Fault seat n t d message
take_leaves seat n t d (File key offset) es v call answer r is passes = by_passes seat n t d (File key offset) (File_call key offset) (λ a x b made e. filed_fault seat n t d x key offset a b made e) (in_call seat n d (File_call key offset) call (same_call call (File_call key offset) answer r.answer es is r.asks) passes)
take_leaves seat n t d (Data bytes) es v call answer (Nothing_held a none c) is passes = no_call es call answer none is
take_leaves seat n t d (Data bytes) es v call answer (Drops p a b none c) is passes = no_call es call answer none is
take_leaves seat n t d (Data bytes) es v call answer (Exceeds h a b c none e) is passes = no_call es call answer none is
take_leaves seat n t d (Data bytes) es v call answer (Fits p has taking fits given asks then) is passes = by_passes seat n t d (Data bytes) (Data_call bytes) (λ a x b made e. data_fault seat n t d x bytes p a has taking fits b made e) (in_call seat n d (Data_call bytes) call (same_call call (Data_call bytes) answer given es is asks) passes)
take_leaves seat n t d (Got key) es v call answer (Passes_got a none c) is passes = no_call es call answer none is
take_leaves seat n t d (Got key) es v call answer (Settles s under same given asks then) is passes = by_passes seat n t d (Got key) (Got_call s.number) (λ a x b made e. got_fault seat n t d x key s a under same b made e) (in_call seat n d (Got_call s.number) call (same_call call (Got_call s.number) answer given es is asks) passes)
take_leaves seat n t d (Skip key) es v call answer (Passes_skip a none c) is passes = no_call es call answer none is
take_leaves seat n t d (Skip key) es v call answer (Skips s under same given asks then) is passes = by_passes seat n t d (Skip key) (Skip_call s.number) (λ a x b made e. skip_fault seat n t d x key s a under same b made e) (in_call seat n d (Skip_call s.number) call (same_call call (Skip_call s.number) answer given es is asks) passes)
take_leaves seat n t d (Get key offset) es v call answer (Resends s a b c none e) is passes = no_call es call answer none is
take_leaves seat n t d (Get key offset) es v call answer (Passes_get a none c) is passes = no_call es call answer none is
take_leaves seat n t d End es v call answer r is passes = no_call es call answer r.0 is

-- a stop at the mark, of a node that may be broken: then the mark is what a call found
marked_passes : (seat : ℕ) (n : Node) (call : Call) (d : Durable) → Passes seat n call d → (d ≡ n.state) ⊎ (n.broken ≡ None)
marked_passes seat n call d (Before_it e) = inl e
marked_passes seat n call d (Marked b first e) = inr b
marked_passes seat n call d (After_it b a x made e) = inr b

pub takes_stop : TakesStop
takes_stop me peer line seat was message rest call answer v left o sits talks front row passes fits = go (take_leaves seat me.node was left message (one call answer) v call answer row refl passes)
  where
    alone : IsEvent me peer (stopped_with left o me.node) → (me' : Place) × (peer' : Place) × Occurs me peer me' peer' × (me'.node ≡ stopped_with left o me.node)
    alone (me', event, is) = (me', peer, event, is)

    go : Fault seat me.node was left message → (me' : Place) × (peer' : Place) × Occurs me peer me' peer' × (me'.node ≡ stopped_with left o me.node)
    go (Nothing_made same) = alone (plain me peer left o same fits)
    go (Mark_made same) = ⊎_elim
        (λ (before : left ≡ me.node.state). alone (plain me peer left o before fits))
        (λ (unbroken : me.node.broken ≡ None). alone (at_mark me peer seat left o unbroken same fits))
        (marked_passes seat me.node call left passes)
    go (All_made x course sent made same) =
        (after_stop o x me, with_end line (with_outbox rest (peer.ends line)) peer, Stops_after_take o line seat x was course sent rest message sits talks front made (subst (λ (d : Durable). OpensWith d o) same fits) refl refl, ap (λ (d : Durable). stopped_with d o me.node) (sym same))

turn_leaves : (block seat : ℕ) (n : Node) (t : Course) (d : Durable) (es : List Event) (v : Verdict) (call : Call) (answer : Answer) → TurnRow block (part_at n seat) t.now es v → es ≡ one call answer → Passes seat n call d → d ≡ n.state
turn_leaves block seat n t d es v call answer (Finishes done none is) e passes = no_call es call answer none e
turn_leaves block seat n t d es v call answer (Rests a own none is) e passes = no_call es call answer none e
turn_leaves block seat n t d es v call answer (Gives own w (Fills s a b none c) after) e passes = no_call es call answer none e
turn_leaves block seat n t d es v call answer (Gives own w (Awaits s a b c none f) after) e passes = no_call es call answer none e
turn_leaves block seat n t d es v call answer (Gives own w (Reads s a b given asks read) after) e passes = read_state seat n s.place block d (in_call seat n d (Read_call s.place block) call (same_call call (Read_call s.place block) answer given es e asks) passes)
turn_leaves block seat n t d es v call answer (Gives own w (Asks a given asks offered) after) e passes = offer_state seat n d (in_call seat n d Offer_call call (same_call call Offer_call answer given es e asks) passes)

pub turns_stop : TurnsStop
turns_stop me peer block seat was call answer v left o row passes fits = plain me peer left o (turn_leaves block seat me.node was left (one call answer) v call answer row refl passes) fits
