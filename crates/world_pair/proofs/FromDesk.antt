-- Rows of a session at a desk that tells its node happen there, behind steps of other seats.
use Rattle.std.proofs.Common.{◌≡◌, ◌⊎◌, zero, suc, ℕ, ◌<◌, Bool, true, false, List, [], ◌∷◌, Option, None, refl, sym, ap, ◌∙◌, subst, inl, inr}
use Rattle.node_model.specs.Durable.{Durable}
use Rattle.node_model.specs.Node.{Node, Session, session_at, hold_in}
use Rattle.node_model.specs.Calls.{Call, Answer, Event, one, Queue_call, Knock_call, Open_call, Offer_call, Read_call, Got_call, Skip_call, File_call, Data_call, Leave_call, Act_call, Give_call, Offered, Nothing, Came, Refused, Disk, Made, Passes, Before_it, Marked, After_it, KnownStep, NodeStep, OtherSteps, Drifts, Knows, Tells, Counts_alone, DeskState, Turned, asked_of, Beside, EndsRefused, OwnRow, Made_row, Missing, OneQueue, StandBeside, Rowed, CallsBeside, Turns as DeskTurns}
use Rattle.node_model.specs.Talk.{Message, Part, part_of, part_at, Verdict, TakeRow, Reads, Fills, Awaits, Asks, TurnRow, Finishes, Rests, Gives}
use Rattle.node_model.proofs.Lists.{off, none_some}
use Rattle.world_pair.specs.Course.{TakeLast, TakeBreaks, TurnLast, Course, Makes, is_disk, BreaksNone, HasDisk}
use Rattle.world_pair.specs.FromDesk.{at_desk, TakeHappens, TurnBreaks, TurnHappens, RowHappens, TakesHappen, TurnsHappen}
use Rattle.world_pair.proofs.Short.{Short, No_call, One_call, InSession, take_short, turn_short}
use Rattle.world_pair.proofs.Apart.{step_apart}

-- other seats leave a seat's session as it is
pub others_apart : (steps seat : ℕ) (n m : Node) → OtherSteps steps seat n m → session_at m seat ≡ session_at n seat
others_apart zero seat n m same = ap (λ (y : Node). session_at y seat) same
others_apart (suc steps) seat n m (mid, before, last) = step_apart last.other mid last.call last.answer m seat (λ e. last.apart (sym e)) last.step ∙ others_apart steps seat n mid before

-- What a desk goes on to tell.

drift_tells : (alone : Bool) (seat : ℕ) (n : Node) (k : Knows) → Drifts alone seat (Tells n) k → (mid : Node) × (k ≡ Tells mid) × ((steps : ℕ) × OtherSteps steps seat n mid)
drift_tells true seat n k d = (n, d, (0, refl))
drift_tells false seat n (Tells m) d = (m, refl, d)
drift_tells false seat n (Counts_alone c) d = absurd d

step_tells : (seat : ℕ) (n : Node) (call : Call) (answer : Answer) (k : Knows) → KnownStep seat (Tells n) call answer k → (m : Node) × (k ≡ Tells m) × NodeStep seat n call answer m
step_tells seat n call answer (Tells m) s = (m, refl, s)
step_tells seat n call answer (Counts_alone c) s = absurd s

beside_tells : (seat : ℕ) (n : Node) (es : List Event) (k : Knows) → Beside seat (Tells n) es k → (m : Node) × (k ≡ Tells m) × Makes seat n es m
beside_tells seat n [] k same = (n, same, refl)
beside_tells seat n (e ∷ es) k (mid, caused, step, rest) =
    let a = step_tells seat n e.call e.answer mid step in
    let b = beside_tells seat a.0 es k (subst (λ (x : Knows). Beside seat x es k) a.1 rest) in
    (b.0, b.1, (a.0, a.2, b.2))

-- The rows beside a call of a session.

record NoneBefore (before after : List Event) : Type 0 where
  first : before ≡ []
  behind : (after ≡ []) ⊎ OneQueue after

none_before : (call : Call) (before after : List Event) → InSession call → StandBeside call before after → NoneBefore before after
none_before Offer_call before after s b = record { first = b.0; behind = inl b.1 }
none_before (Read_call place room) before after s b = record { first = b.0; behind = inl b.1 }
none_before (Got_call number) before after s b = record { first = b.0; behind = inl b.1 }
none_before (Skip_call number) before after s b = record { first = b.0; behind = inl b.1 }
none_before (File_call key offset) before after s b = record { first = b.0; behind = inr b.1 }
none_before (Data_call bytes) before after s b = record { first = b.0; behind = inr b.1 }
none_before (Queue_call files taken answered) before after s b = absurd s
none_before (Knock_call role) before after s b = absurd s
none_before (Open_call role peers secure moment) before after s b = absurd s
none_before Leave_call before after s b = absurd s
none_before (Act_call dest) before after s b = absurd s
none_before Give_call before after s b = absurd s

own_tells : (seat : ℕ) (before : List Event) (n : Node) (asked : Event) (k : Knows) → before ≡ [] → OwnRow seat before (Tells n) asked k → (m : Node) × (k ≡ Tells m) × NodeStep seat n asked.call asked.answer m
own_tells seat before n asked k none (Made_row made caused step) = step_tells seat n asked.call asked.answer k step
own_tells seat before n asked k none (Missing fault ends is same) = absurd (subst (λ (l : List Event). EndsRefused l fault) none ends)

-- one call of a desk: other seats' steps, the seat's own, and the rows behind it
record OneCall (seat : ℕ) (n : Node) (call : Call) (answer : Answer) (desk : DeskState) : Type 0 where
  steps : ℕ
  mid : Node
  others : OtherSteps steps seat n mid
  made : Node
  step : NodeStep seat mid call answer made
  behind : List Event
  queues : (behind ≡ []) ⊎ OneQueue behind
  last : Node
  rows : Makes seat made behind last
  is : desk ≡ at_desk seat last

one_call : (alone : Bool) (seat : ℕ) (n : Node) (e : Turned) (desk : DeskState) → InSession e.asked.call → CallsBeside alone (at_desk seat n) e desk → OneCall seat n e.asked.call e.asked.answer desk
one_call alone seat n e desk within c =
    let d = drift_tells alone seat n c.mid c.drift in
    let r : Rowed seat (Tells d.0) e desk.knows = subst (λ (k : Knows). Rowed seat k e desk.knows) d.1 c.rows in
    let none = none_before e.asked.call e.before e.after within r.beside in
    let asks : r.asks ≡ Tells d.0 = subst (λ (l : List Event). Beside seat (Tells d.0) l r.asks) none.first r.before in
    let own = own_tells seat e.before d.0 e.asked r.answers none.first (subst (λ (k : Knows). OwnRow seat e.before k e.asked r.answers) asks r.own) in
    let after = beside_tells seat own.0 e.after desk.knows (subst (λ (k : Knows). Beside seat k e.after desk.knows) own.1 r.after) in
    record {
      steps = d.2.0;
      mid = d.0;
      others = d.2.1;
      made = own.0;
      step = own.2;
      behind = e.after;
      queues = none.behind;
      last = after.0;
      rows = after.2;
      is = λ i. record { seat = c.seat i; knows = after.1 i };
    }

-- A row of a session.

none_asked : (es : List Turned) → asked_of es ≡ [] → es ≡ []
none_asked [] e = refl
none_asked (x ∷ xs) e = absurd (cc)

record OneAsked (es : List Turned) (call : Call) (answer : Answer) : Type 0 where
  turned : Turned
  is : es ≡ turned ∷ []
  asked : turned.asked ≡ record { call = call; answer = answer }

one_asked : (es : List Turned) (call : Call) (answer : Answer) → asked_of es ≡ one call answer → OneAsked es call answer
one_asked [] call answer e = absurd (cc)
one_asked (x ∷ []) call answer e = record { turned = x; is = refl; asked = head x.asked (record { call = call; answer = answer }) e }
  where
    head : (a b : Event) → a ∷ [] ≡ b ∷ [] → a ≡ b
    head a b same = cc
one_asked (x ∷ y ∷ ys) call answer e = absurd (tail x.asked (record { call = call; answer = answer }) y.asked (asked_of ys) e)
  where
    tail : (a b c : Event) (rest : List Event) → a ∷ c ∷ rest ≡ b ∷ [] → ⊥
    tail a b c rest same = absurd (cc)

-- a row of at most one call: what it does at the node that other seats leave
pub row_happens : (alone : Bool) (seat : ℕ) (n : Node) (desk : DeskState) (es : List Turned) (row : Node → Node → Type 0) → Short (asked_of es) → DeskTurns alone (at_desk seat n) es desk
    → ((mid made : Node) → session_at mid seat ≡ session_at n seat → Makes seat mid (asked_of es) made → row mid made) → RowHappens seat n desk row
row_happens alone seat n desk es row (No_call none) chain make =
    let is : desk ≡ at_desk seat n = subst (λ (l : List Turned). DeskTurns alone (at_desk seat n) l desk) (none_asked es none) chain in
    record { steps = 0; mid = n; others = refl; made = n; happens = make n n refl (subst (λ (l : List Event). Makes seat n l n) (sym none) refl); behind = []; queues = inl refl; last = n; rows = refl; is = is }
row_happens alone seat n desk es row (One_call call answer within is) chain make = go (subst (λ (l : List Turned). DeskTurns alone (at_desk seat n) l desk) one.is chain)
  where
    one : OneAsked es call answer
    one = one_asked es call answer is

    go : DeskTurns alone (at_desk seat n) (one.turned ∷ []) desk → RowHappens seat n desk row
    go (mid, made, end) =
        let c = one_call alone seat n one.turned mid (subst (λ (e : Event). InSession e.call) (sym one.asked) within) made in
        let step : NodeStep seat c.mid call answer c.made = subst (λ (e : Event). NodeStep seat c.mid e.call e.answer c.made) one.asked c.step in
        record {
          steps = c.steps;
          mid = c.mid;
          others = c.others;
          made = c.made;
          happens = make c.mid c.made (others_apart c.steps seat n c.mid c.others) (subst (λ (l : List Event). Makes seat c.mid l c.made) (sym is) (c.made, step, refl));
          behind = c.behind;
          queues = c.queues;
          last = c.last;
          rows = c.rows;
          is = end ∙ c.is;
        }

-- Whether the store breaks in a row of at most one call.

one_step : (seat : ℕ) (n m : Node) (call : Call) (answer : Answer) → Makes seat n (one call answer) m → NodeStep seat n call answer m
one_step seat n m call answer (mid, made, end) = subst (NodeStep seat n call answer) (sym end) made

pub data Broken_or_not (n m : Node) (es : List Event) : Type 0 where
  Breaks_none : BreaksNone n es m → Broken_or_not n m es
  Breaks_there : n.broken ≡ None → HasDisk es → Broken_or_not n m es

by_answer : (seat : ℕ) (n m : Node) (call : Call) (answer : Answer) → NodeStep seat n call answer m → Broken_or_not n m (one call answer)
by_answer seat n m call (Refused (Disk count)) (may, inl r) = Breaks_none (λ _. r.1, tt)
by_answer seat n m call (Refused (Disk count)) (may, inr b) = Breaks_there b.unbroken refl
by_answer seat n m call answer step = Breaks_none (λ d. off (sym d), tt)

by_row : (seat : ℕ) (n m : Node) (es : List Event) → Short es → Makes seat n es m → Broken_or_not n m es
by_row seat n m es (No_call none) chain = subst (Broken_or_not n m) (sym none) (Breaks_none tt)
by_row seat n m es (One_call call answer within is) chain = subst (Broken_or_not n m) (sym is) (by_answer seat n m call answer (one_step seat n m call answer (subst (λ (l : List Event). Makes seat n l m) is chain)))

-- Taking a message.

part_same : (n mid : Node) (seat : ℕ) → session_at mid seat ≡ session_at n seat → part_at n seat ≡ part_at mid seat
part_same n mid seat same = ap (λ (s : Option Session). part_of (hold_in s)) (sym same)

take_happens : (seat : ℕ) (was : Course) (message : Message) (events : List Event) (v : Verdict) (mid made : Node) → TakeRow (part_at mid seat) was.now message events v → Makes seat mid events made → TakeHappens seat was message events v mid made
take_happens seat was message events v mid made row chain =
    record {
      goes_on = λ open_still. record { events = events; verdict = v; row = row; chain = chain; open_still = open_still; said = refl; after = refl };
      last = ends (by_row seat mid made events (take_short (part_at mid seat) was.now message events v row) chain);
    }
  where
    ends : Broken_or_not mid made events → TakeLast seat mid was made message ⊎ TakeBreaks seat mid was made message
    ends (Breaks_none calm) = inl (record { events = events; verdict = v; row = row; chain = chain; breaks_none = calm })
    ends (Breaks_there unbroken disk) = inr (record { unbroken = unbroken; events = events; verdict = v; row = row; chain = chain; disk = disk })

pub takes_happen : TakesHappen
takes_happen alone seat n was message es v desk row chain =
    row_happens alone seat n desk es (TakeHappens seat was message (asked_of es) v) (take_short (part_at n seat) was.now message (asked_of es) v row) chain
    (λ mid made same calls. take_happens seat was message (asked_of es) v mid made (subst (λ (p : Option Part). TakeRow p was.now message (asked_of es) v) (part_same n mid seat same) row) calls)

-- An own turn.

disk_count : (answer : Answer) → is_disk answer ≡ true → (count : ℕ) × (answer ≡ Refused (Disk count))
disk_count (Refused (Disk count)) e = (count, refl)
disk_count answer e = off (sym e)

-- reading and offering change nothing that is kept
pub read_state : (seat : ℕ) (n : Node) (place room : ℕ) (d : Durable) → Passes seat n (Read_call place room) d → d ≡ n.state
read_state seat n place room d (Before_it e) = e
read_state seat n place room d (Marked unbroken first e) = off (sym first)
read_state seat n place room d (After_it unbroken answer x made e) = e ∙ made_state answer x made
  where
    made_state : (a : Answer) (x : Node) → Made seat n (Read_call place room) a x → x.state ≡ n.state
    made_state (Came bytes) x made = ap (λ (y : Node). y.state) made.after
    made_state a x made = absurd made

pub offer_state : (seat : ℕ) (n : Node) (d : Durable) → Passes seat n Offer_call d → d ≡ n.state
offer_state seat n d (Before_it e) = e
offer_state seat n d (Marked unbroken first e) = off (sym first)
offer_state seat n d (After_it unbroken answer x made e) = e ∙ made_state answer x made
  where
    made_state : (a : Answer) (x : Node) → Made seat n Offer_call a x → x.state ≡ n.state
    made_state (Offered number key) x made = ap (λ (y : Node). y.state) made.3.after
    made_state Nothing x made = ap (λ (y : Node). y.state) made.after
    made_state a x made = absurd made

-- the store breaks in the call of a turn, and the turn ends at the broken node
turn_broke : (block seat : ℕ) (was : Course) (events : List Event) (v : Verdict) (mid made : Node) (call : Call) (answer : Answer) → 0 < block → mid.broken ≡ None → events ≡ one call answer → is_disk answer ≡ true → ((d : Durable) → Passes seat mid call d → d ≡ mid.state) → TurnRow block (part_at made seat) was.now events v → NodeStep seat mid call answer made → TurnBreaks seat was mid made
turn_broke block seat was events v mid made call answer some unbroken is disk state row step = go (subst (λ (a : Answer). NodeStep seat mid call a made) count.1 step)
  where
    count : (c : ℕ) × (answer ≡ Refused (Disk c))
    count = disk_count answer disk

    go : NodeStep seat mid call (Refused (Disk count.0)) made → TurnBreaks seat was mid made
    go (may, inl r) = none_some (sym unbroken ∙ r.0)
    go (may, inr b) =
        let now : events ≡ one call (Refused (Disk count.0)) = is ∙ ap (one call) count.1 in
        record { call = call; count = count.0; step = (may, inr b); state = state made.state b.passes; turn = record { block = block; some = some; events = events; verdict = v; row = row; chain = subst (λ (l : List Event). Makes seat made l made) (sym now) (made, (may, inl (b.broken, refl)), refl); breaks_none = subst (λ (l : List Event). BreaksNone made l made) (sym now) ((λ _. refl), tt) } }

turn_breaks : (block seat : ℕ) (was : Course) (events : List Event) (v : Verdict) (mid made : Node) → 0 < block → mid.broken ≡ None → HasDisk events → TurnRow block (part_at mid seat) was.now events v → Makes seat mid events made → TurnBreaks seat was mid made
turn_breaks block seat was events v mid made some unbroken disk (Finishes done none is) chain = absurd (subst HasDisk none disk)
turn_breaks block seat was events v mid made some unbroken disk (Rests a own none is) chain = absurd (subst HasDisk none disk)
turn_breaks block seat was events v mid made some unbroken disk (Gives own w (Fills s a b none c) after) chain = absurd (subst HasDisk none disk)
turn_breaks block seat was events v mid made some unbroken disk (Gives own w (Awaits s a b c none d) after) chain = absurd (subst HasDisk none disk)
turn_breaks block seat was events v mid made some unbroken disk (Gives own w (Reads s a b answer asks read) after) chain =
    turn_broke block seat was events v mid made (Read_call s.place block) answer some unbroken asks (subst HasDisk asks disk) (read_state seat mid s.place block) (Gives own w (Reads s a b answer asks read) after) (one_step seat mid made (Read_call s.place block) answer (subst (λ (l : List Event). Makes seat mid l made) asks chain))
turn_breaks block seat was events v mid made some unbroken disk (Gives own w (Asks a answer asks offered) after) chain =
    turn_broke block seat was events v mid made Offer_call answer some unbroken asks (subst HasDisk asks disk) (offer_state seat mid) (Gives own w (Asks a answer asks offered) after) (one_step seat mid made Offer_call answer (subst (λ (l : List Event). Makes seat mid l made) asks chain))

turn_happens : (block seat : ℕ) (was : Course) (events : List Event) (v : Verdict) (mid made : Node) → 0 < block → TurnRow block (part_at mid seat) was.now events v → Makes seat mid events made → TurnHappens seat was events v mid made
turn_happens block seat was events v mid made some row chain =
    record {
      goes_on = λ open_still. record { block = block; some = some; events = events; verdict = v; row = row; chain = chain; open_still = open_still; said = refl; after = refl };
      last = ends (by_row seat mid made events (turn_short block (part_at mid seat) was.now events v row) chain);
    }
  where
    ends : Broken_or_not mid made events → TurnLast seat mid was made ⊎ TurnBreaks seat was mid made
    ends (Breaks_none calm) = inl (record { block = block; some = some; events = events; verdict = v; row = row; chain = chain; breaks_none = calm })
    ends (Breaks_there unbroken disk) = inr (turn_breaks block seat was events v mid made some unbroken disk row chain)

pub turns_happen : TurnsHappen
turns_happen alone block seat n was es v desk some row chain =
    row_happens alone seat n desk es (TurnHappens seat was (asked_of es) v) (turn_short block (part_at n seat) was.now (asked_of es) v row) chain
    (λ mid made same calls. turn_happens block seat was (asked_of es) v mid made some (subst (λ (p : Option Part). TurnRow block p was.now (asked_of es) v) (part_same n mid seat same) row) calls)
