-- Which file a seat holds, call by call.
use Rattle.std.proofs.Common.{◌≡◌, ◌≢◌, ◌∙◌, ℕ, zero, suc, Bool, true, false, List, [], ◌∷◌, Option, Some, None, refl, sym, ap, subst, inl, inr}
use Rattle.ftn_addr.specs.Key.{Key}
use Rattle.node_model.specs.Node.{Hold, Session, Seat, Node, seat_in, put_seat, session_at, hold_in}
use Rattle.node_model.specs.Rows.{FileAnswer, Have, Refuse, Elsewhere, Go, Whole, From, Late, FileMade, released, unheld}
use Rattle.node_model.specs.Calls.{Counts, Call, Queue_call, Knock_call, Open_call, Offer_call, Read_call, Got_call, Skip_call, File_call, Data_call, Leave_call, Act_call, Give_call, Fault, Disk, Read, Full, No_memory, Answer, Queued, Let_in, Busy, Begun, Offered, Nothing, Came, Settled, Filed, More, Whole_now, Acted, Given, Held, Refused, Event, Made, Unmade, NotMade, NodeStep, KnownStep, OtherSteps, Knows, Tells, Counts_alone, Drifts, DeskState, Turned, asked_of, Beside, EndsRefused, OwnRow, Made_row, Missing, TakesIn, AllTakeIn, IsQueue, OneQueue, StandBeside, CallsBeside, Turns}
use Rattle.node_model.specs.Desks.{held_after, less}
use Rattle.node_model.specs.Talk.{Part}
use Rattle.node_model.proofs.Moves.{put_at, put_apart, offer-moved, got-moved, skip-moved, leave-moved, open-moved, more-moved, whole-moved, released-moved}
use Rattle.node_model.proofs.SeatSessions.{session_at-with_session}
use Rattle.session_recv.specs.Replies.{held_along}
use Rattle.session_run.proofs.StepCounts.{made_counts}

abbrev pub key_held : Option Hold → Option Key
key_held None = None
key_held (Some h) = Some h.key

abbrev pub key_at : ℕ → Node → Option Key
key_at seat n = key_held (hold_in (session_at n seat))

-- the key of the held file after a call
abbrev pub key_after : Option Key → Call → Answer → Option Key
key_after old (File_call key offset) (Filed Go) = Some key
key_after old (File_call key offset) (Filed (From place)) = Some key
key_after old (File_call key offset) answer = None
key_after old (Data_call bytes) Whole_now = None
key_after old Leave_call Settled = None
key_after old call answer = old

abbrev pub keys_along : Option Key → List Event → Option Key
keys_along old [] = old
keys_along old (e ∷ es) = keys_along (key_after old e.call e.answer) es

abbrev pub part_key : Option Part → Option Key
part_key None = None
part_key (Some p) = Some p.key

key_less : (n : ℕ) (p : Option Part) → part_key (less n p) ≡ part_key p
key_less n None = refl
key_less n (Some p) = refl

key_of_after : (p : Option Part) (call : Call) (answer : Answer) → part_key (held_after p call answer) ≡ key_after (part_key p) call answer
key_of_after p (File_call key offset) (Filed Go) = refl
key_of_after p (File_call key offset) (Filed (From place)) = refl
key_of_after p (Data_call bytes) More = key_less _ p
key_of_after p (Data_call bytes) Whole_now = refl
key_of_after p Leave_call Settled = refl
key_of_after p call answer = refl

pub keys_of_along : (p : Option Part) (es : List Event) → part_key (held_along p es) ≡ keys_along (part_key p) es
keys_of_along p [] = refl
keys_of_along p (e ∷ es) = keys_of_along (held_after p e.call e.answer) es ∙ ap (λ (k : Option Key). keys_along k es) (key_of_after p e.call e.answer)

-- the seat's session is that
here : (seat : ℕ) (n : Node) (s : Option Session) → session_at n seat ≡ s → key_at seat n ≡ key_held (hold_in s)
here seat n s at = ap (λ (x : Option Session). key_held (hold_in x)) at

-- it holds what it held
still : (seat : ℕ) (old new : Node) (s t : Session) (key : Option Key) → session_at new seat ≡ Some t → t.hold ≡ s.hold → session_at old seat ≡ Some s → key_at seat old ≡ key → key_at seat new ≡ key
still seat old new s t key now same has e = here seat new (Some t) now ∙ ap key_held same ∙ sym (here seat old (Some s) has) ∙ e

file_key : (seat : ℕ) (s : Session) (key : Key) (offset : ℕ) (answer : FileAnswer) (old new : Node) (before : Option Key) → FileMade seat (unheld s) key answer (released seat s old) new → key_at seat new ≡ key_after before (File_call key offset) (Filed answer)
file_key seat s key offset Refuse old new before made = ap (key_at seat) made ∙ here seat (released seat s old) (Some (unheld s)) (released-moved old seat s).here
file_key seat s key offset Have old new before made = ap (key_at seat) made ∙ here seat (released seat s old) (Some (unheld s)) (released-moved old seat s).here
file_key seat s key offset Elsewhere old new before made = ap (key_at seat) made ∙ here seat (released seat s old) (Some (unheld s)) (released-moved old seat s).here
file_key seat s key offset Late old new before made = ap (key_at seat) made ∙ here seat (released seat s old) (Some (unheld s)) (released-moved old seat s).here
file_key seat s key offset Whole old new before made = ap (key_at seat) made.2 ∙ here seat (released seat s old) (Some (unheld s)) (released-moved old seat s).here
file_key seat s key offset Go old new before made = ap (key_at seat) made.2 ∙ ap (λ (x : Option Session). key_held (hold_in x)) (session_at-with_session seat _ (released seat s old))
file_key seat s key offset (From place) old new before made = ap (key_at seat) made.2 ∙ ap (λ (x : Option Session). key_held (hold_in x)) (session_at-with_session seat _ (released seat s old))

made_key : (seat : ℕ) (old : Node) (call : Call) (answer : Answer) (new : Node) (key : Option Key) → Made seat old call answer new → key_at seat old ≡ key → key_at seat new ≡ key_after key call answer
made_key seat old (Queue_call files taken answered) (Queued slots) new key r e = ap (key_at seat) r.after ∙ e
made_key seat old (Knock_call role) Let_in new key r e = ap (key_at seat) r.after ∙ e
made_key seat old (Knock_call role) Busy new key r e = ap (key_at seat) r.after ∙ ap (λ (v : Seat). key_held (hold_in v.session)) (put_at seat _ old.seats) ∙ e
made_key seat old (Open_call role peers secure moment) (Begun number) new key r e = here seat new _ (open-moved old new seat role peers secure moment r.1).here ∙ sym (here seat old None r.1.none_yet) ∙ e
made_key seat old Offer_call (Offered number k) new key r e = still seat old new r.3.session _ key (offer-moved old new seat r.0 r.3).here refl r.3.has e
made_key seat old Offer_call Nothing new key r e = ap (key_at seat) r.after ∙ e
made_key seat old (Read_call place room) (Came bytes) new key r e = ap (key_at seat) r.after ∙ e
made_key seat old (Got_call number) Settled new key r e = still seat old new r.session _ key (got-moved old new seat number r).here refl r.has e
made_key seat old (Skip_call number) Settled new key r e = still seat old new r.session _ key (skip-moved old new seat number r).here refl r.has e
made_key seat old (File_call k offset) (Filed answer) new key r e = file_key seat r.session k offset answer old new key r.made
made_key seat old (Data_call bytes) More new key r e = here seat new _ (more-moved old new seat bytes r).here ∙ sym (ap key_held r.holds) ∙ sym (here seat old (Some r.session) r.has) ∙ e
made_key seat old (Data_call bytes) Whole_now new key r e = here seat new _ (whole-moved old new seat bytes r).here
made_key seat old Leave_call Settled new key (inl r) e = here seat new _ (leave-moved old new seat r).here
made_key seat old Leave_call Settled new key (inr r) e = ap (key_at seat) r.1 ∙ here seat old None r.0
made_key seat old (Act_call dest) (Acted number) new key r e = ap (key_at seat) r.after ∙ e
made_key seat old (Act_call dest) Nothing new key r e = ap (key_at seat) r.after ∙ e
made_key seat old Give_call (Given number) new key r e = ap (key_at seat) r.after ∙ e
made_key seat old Give_call (Held number) new key r e = ap (key_at seat) r.after ∙ e
made_key seat old Give_call Nothing new key r e = ap (key_at seat) r.after ∙ e
made_key seat old _ _ new key r e = absurd r

-- a call that finds no place or no memory: a file ends what was held, and nothing else does
abbrev pub key_unmade : Option Key → Call → Option Key
key_unmade old (File_call key offset) = None
key_unmade old call = old

unmade_key : (seat fulls : ℕ) (old : Node) (call : Call) (new : Node) (key : Option Key) → Unmade seat fulls old call new → key_at seat old ≡ key → key_at seat new ≡ key_unmade key call
unmade_key seat fulls old (File_call k offset) new key u e = ap (key_at seat) u.after ∙ here seat (released seat u.session old) (Some (unheld u.session)) (released-moved old seat u.session).here
unmade_key seat fulls old (Queue_call files taken answered) new key u e = ap (key_at seat) u.after ∙ e
unmade_key seat fulls old call new key u e = ap (key_at seat) u ∙ e

unmade_after : (key : Option Key) (call : Call) (fault : Fault) → key_unmade key call ≡ key_after key call (Refused fault)
unmade_after key (File_call k offset) fault = refl
unmade_after key call fault = refl

-- while the node isn't broken, the seat holds that file
abbrev pub HoldsKey : ℕ → Node → Option Key → Type 0
HoldsKey seat n key = n.broken ≡ None → key_at seat n ≡ key

both_ways : {A : Type 0} (b : Option ℕ) (count : ℕ) → b ≡ Some count → b ≡ None → A
both_ways b count some none = absurd (let clash : Some count ≡ None = sym some ∙ none in cc)

read_key : (seat : ℕ) (old : Node) (call : Call) (count : ℕ) (new : Node) (key : Option Key) → NotMade seat old call (Read count) new → key_at seat old ≡ key → key_at seat new ≡ key_after key call (Refused (Read count))
read_key seat old (Read_call place room) count new key r e = ap (key_at seat) r.3 ∙ ap (λ (v : Seat). key_held (hold_in v.session)) (put_at seat _ old.seats) ∙ e
read_key seat old call count new key r e = absurd r.0

refused_key : (seat : ℕ) (old : Node) (call : Call) (fault : Fault) (new : Node) (key : Option Key) → NotMade seat old call fault new → HoldsKey seat old key → HoldsKey seat new (key_after key call (Refused fault))
refused_key seat old call (Disk count) new key (may, inl same) h = λ whole. both_ways old.broken count same.0 (ap (λ (n : Node). n.broken) (sym same.1) ∙ whole)
refused_key seat old call (Disk count) new key (may, inr b) h = λ whole. both_ways new.broken count b.broken whole
refused_key seat old call (Read count) new key r h = λ whole. read_key seat old call count new key r (h r.1)
refused_key seat old call Full new key r h = λ whole. unmade_key seat _ old call new key r.2 (h r.0) ∙ unmade_after key call Full
refused_key seat old call No_memory new key r h = λ whole. unmade_key seat _ old call new key r.2 (h r.0) ∙ unmade_after key call No_memory

-- a call that is made breaks nothing
made_whole : (seat : ℕ) (old : Node) (call : Call) (answer : Answer) (new : Node) → Made seat old call answer new → new.broken ≡ None → old.broken ≡ None
made_whole seat old call answer new m whole = sym (ap (λ (c : Counts). c.broken) (made_counts seat old call answer new m)) ∙ whole

pub step_key : (seat : ℕ) (old : Node) (call : Call) (answer : Answer) (new : Node) (key : Option Key) → NodeStep seat old call answer new → HoldsKey seat old key → HoldsKey seat new (key_after key call answer)
step_key seat old call (Refused fault) new key s h = refused_key seat old call fault new key s h
step_key seat old call answer new key s h = λ whole. made_key seat old call answer new key s.1 (h (made_whole seat old call answer new s.1 whole))

-- Steps of other seats.

made_apart : (seat : ℕ) (old : Node) (call : Call) (answer : Answer) (new : Node) (k : ℕ) → k ≢ seat → Made seat old call answer new → session_at new k ≡ session_at old k
made_apart seat old (Queue_call files taken answered) (Queued slots) new k other r = ap (λ (n : Node). session_at n k) r.after
made_apart seat old (Knock_call role) Let_in new k other r = ap (λ (n : Node). session_at n k) r.after
made_apart seat old (Knock_call role) Busy new k other r = ap (λ (n : Node). session_at n k) r.after ∙ ap (λ (v : Seat). v.session) (put_apart seat _ old.seats k other)
made_apart seat old (Open_call role peers secure moment) (Begun number) new k other r = (open-moved old new seat role peers secure moment r.1).apart k other
made_apart seat old Offer_call (Offered number key) new k other r = (offer-moved old new seat r.0 r.3).apart k other
made_apart seat old Offer_call Nothing new k other r = ap (λ (n : Node). session_at n k) r.after
made_apart seat old (Read_call place room) (Came bytes) new k other r = ap (λ (n : Node). session_at n k) r.after
made_apart seat old (Got_call number) Settled new k other r = (got-moved old new seat number r).apart k other
made_apart seat old (Skip_call number) Settled new k other r = (skip-moved old new seat number r).apart k other
made_apart seat old (File_call key offset) (Filed answer) new k other r = file_apart answer r.made
  where
    left : session_at (released seat r.session old) k ≡ session_at old k
    left = (released-moved old seat r.session).apart k other

    put : (s : Option Session) → (seat_in (put_seat seat (record (seat_in (released seat r.session old).seats seat) { session = s }) (released seat r.session old).seats) k).session ≡ session_at (released seat r.session old) k
    put s = ap (λ (v : Seat). v.session) (put_apart seat _ (released seat r.session old).seats k other)

    file_apart : (x : FileAnswer) → FileMade seat (unheld r.session) key x (released seat r.session old) new → session_at new k ≡ session_at old k
    file_apart Refuse made = ap (λ (n : Node). session_at n k) made ∙ left
    file_apart Have made = ap (λ (n : Node). session_at n k) made ∙ left
    file_apart Elsewhere made = ap (λ (n : Node). session_at n k) made ∙ left
    file_apart Late made = ap (λ (n : Node). session_at n k) made ∙ left
    file_apart Whole made = ap (λ (n : Node). session_at n k) made.2 ∙ left
    file_apart Go made = ap (λ (n : Node). session_at n k) made.2 ∙ put _ ∙ left
    file_apart (From place) made = ap (λ (n : Node). session_at n k) made.2 ∙ put _ ∙ left
made_apart seat old (Data_call bytes) More new k other r = (more-moved old new seat bytes r).apart k other
made_apart seat old (Data_call bytes) Whole_now new k other r = (whole-moved old new seat bytes r).apart k other
made_apart seat old Leave_call Settled new k other (inl r) = (leave-moved old new seat r).apart k other
made_apart seat old Leave_call Settled new k other (inr r) = ap (λ (n : Node). session_at n k) r.1
made_apart seat old (Act_call dest) (Acted number) new k other r = ap (λ (n : Node). session_at n k) r.after
made_apart seat old (Act_call dest) Nothing new k other r = ap (λ (n : Node). session_at n k) r.after
made_apart seat old Give_call (Given number) new k other r = ap (λ (n : Node). session_at n k) r.after
made_apart seat old Give_call (Held number) new k other r = ap (λ (n : Node). session_at n k) r.after
made_apart seat old Give_call Nothing new k other r = ap (λ (n : Node). session_at n k) r.after
made_apart seat old _ _ new k other r = absurd r

unmade_apart : (seat fulls : ℕ) (old : Node) (call : Call) (new : Node) (k : ℕ) → k ≢ seat → Unmade seat fulls old call new → session_at new k ≡ session_at old k
unmade_apart seat fulls old (File_call key offset) new k other u = ap (λ (n : Node). session_at n k) u.after ∙ (released-moved old seat u.session).apart k other
unmade_apart seat fulls old (Queue_call files taken answered) new k other u = ap (λ (n : Node). session_at n k) u.after
unmade_apart seat fulls old call new k other u = ap (λ (n : Node). session_at n k) u

refused_apart : (seat : ℕ) (old : Node) (call : Call) (fault : Fault) (new : Node) (k : ℕ) (key : Option Key) → k ≢ seat → NotMade seat old call fault new → HoldsKey k old key → HoldsKey k new key
refused_apart seat old call (Disk count) new k key other (may, inl same) h = λ whole. both_ways old.broken count same.0 (ap (λ (n : Node). n.broken) (sym same.1) ∙ whole)
refused_apart seat old call (Disk count) new k key other (may, inr b) h = λ whole. both_ways new.broken count b.broken whole
refused_apart seat old call (Read count) new k key other r h = λ whole. ap (key_at k) r.3 ∙ ap (λ (v : Seat). key_held (hold_in v.session)) (put_apart seat _ old.seats k other) ∙ h r.1
refused_apart seat old call Full new k key other r h = λ whole. ap (λ (x : Option Session). key_held (hold_in x)) (unmade_apart seat _ old call new k other r.2) ∙ h r.0
refused_apart seat old call No_memory new k key other r h = λ whole. ap (λ (x : Option Session). key_held (hold_in x)) (unmade_apart seat _ old call new k other r.2) ∙ h r.0

step_apart : (seat : ℕ) (old : Node) (call : Call) (answer : Answer) (new : Node) (k : ℕ) (key : Option Key) → k ≢ seat → NodeStep seat old call answer new → HoldsKey k old key → HoldsKey k new key
step_apart seat old call (Refused fault) new k key other s h = refused_apart seat old call fault new k key other s h
step_apart seat old call answer new k key other s h = λ whole. ap (λ (x : Option Session). key_held (hold_in x)) (made_apart seat old call answer new k other s.1) ∙ h (made_whole seat old call answer new s.1 whole)

others_key : (n seat : ℕ) (old new : Node) (key : Option Key) → OtherSteps n seat old new → HoldsKey seat old key → HoldsKey seat new key
others_key zero seat old new key same h = subst (λ (x : Node). HoldsKey seat x key) (sym same) h
others_key (suc n) seat old new key (mid, before, last) h =
    step_apart last.other mid last.call last.answer new seat key (λ same. last.apart (sym same)) last.step (others_key n seat old mid key before h)

-- The same of what a desk tells.

abbrev pub HoldsKnown : ℕ → Knows → Option Key → Type 0
HoldsKnown seat (Tells n) key = HoldsKey seat n key
HoldsKnown seat (Counts_alone c) key = Unit {0}

pub drift_key : (alone : Bool) (seat : ℕ) (old new : Knows) (key : Option Key) → Drifts alone seat old new → HoldsKnown seat old key → HoldsKnown seat new key
drift_key true seat old new key same h = subst (λ (k : Knows). HoldsKnown seat k key) (sym same) h
drift_key false seat (Tells old) (Tells new) key (n, steps) h = others_key n seat old new key steps h
drift_key false seat (Counts_alone old) (Counts_alone new) key d h = tt
drift_key false seat (Tells old) (Counts_alone new) key d h = absurd d
drift_key false seat (Counts_alone old) (Tells new) key d h = absurd d

known_key : (seat : ℕ) (old : Knows) (call : Call) (answer : Answer) (new : Knows) (key : Option Key) → KnownStep seat old call answer new → HoldsKnown seat old key → HoldsKnown seat new (key_after key call answer)
known_key seat (Tells old) call answer (Tells new) key s h = step_key seat old call answer new key s h
known_key seat (Counts_alone old) call answer (Counts_alone new) key s h = tt
known_key seat (Tells old) call answer (Counts_alone new) key s h = absurd s
known_key seat (Counts_alone old) call answer (Tells new) key s h = absurd s

take_in_key : (key : Option Key) (call : Call) (answer : Answer) → TakesIn call → key_after key call answer ≡ key
take_in_key key (Queue_call files taken answered) answer t = refl
take_in_key key (Act_call dest) answer t = refl
take_in_key key call answer t = absurd t

pub beside_key : (seat : ℕ) (old : Knows) (es : List Event) (new : Knows) (key : Option Key) → AllTakeIn es → Beside seat old es new → HoldsKnown seat old key → HoldsKnown seat new key
beside_key seat old [] new key all same h = subst (λ (k : Knows). HoldsKnown seat k key) (sym same) h
beside_key seat old (e ∷ es) new key all (mid, caused, step, rest) h =
    beside_key seat mid es new key all.1 rest (subst (HoldsKnown seat mid) (take_in_key key e.call e.answer all.0) (known_key seat old e.call e.answer mid key step h))

-- rows beside a call are of take-ins
queue_takes : (call : Call) → IsQueue call → TakesIn call
queue_takes (Queue_call files taken answered) q = tt
queue_takes call q = absurd q

one_takes : (es : List Event) → OneQueue es → AllTakeIn es
one_takes [] q = tt
one_takes (e ∷ []) q = (queue_takes e.call q, tt)
one_takes (e ∷ f ∷ es) q = absurd q

none_takes : (es : List Event) → es ≡ [] → AllTakeIn es
none_takes es e = subst AllTakeIn (sym e) tt

pub before_takes : (call : Call) (before after : List Event) → StandBeside call before after → AllTakeIn before
before_takes (Open_call role peers secure moment) before after s = s.0
before_takes (File_call key offset) before after s = none_takes before s.0
before_takes (Data_call bytes) before after s = none_takes before s.0
before_takes call before after s = none_takes before s.0

after_takes : (call : Call) (before after : List Event) → StandBeside call before after → AllTakeIn after
after_takes (Open_call role peers secure moment) before after s = none_takes after s.1
after_takes (File_call key offset) before after s = one_takes after s.1
after_takes (Data_call bytes) before after s = one_takes after s.1
after_takes call before after s = none_takes after s.1

-- where a row before an opening was refused, nothing else is held then
missing_key : (key : Option Key) (call : Call) (answer : Answer) (before after : List Event) (fault : Fault) → StandBeside call before after → EndsRefused before fault → key ≡ key_after key call answer
missing_key key (Open_call role peers secure moment) answer before after fault s r = refl
missing_key key (File_call k offset) answer before after fault s r = absurd (subst (λ (es : List Event). EndsRefused es fault) s.0 r)
missing_key key (Data_call bytes) answer before after fault s r = absurd (subst (λ (es : List Event). EndsRefused es fault) s.0 r)
missing_key key Leave_call answer before after fault s r = absurd (subst (λ (es : List Event). EndsRefused es fault) s.0 r)
missing_key key call answer before after fault s r = refl

own_key : (seat : ℕ) (before after : List Event) (old : Knows) (asked : Event) (new : Knows) (key : Option Key) → StandBeside asked.call before after → OwnRow seat before old asked new → HoldsKnown seat old key → HoldsKnown seat new (key_after key asked.call asked.answer)
own_key seat before after old asked new key s (Made_row made caused step) h = known_key seat old asked.call asked.answer new key step h
own_key seat before after old asked new key s (Missing fault refused is same) h =
    subst (HoldsKnown seat new) (missing_key key asked.call asked.answer before after fault s refused) (subst (λ (k : Knows). HoldsKnown seat k key) (sym same) h)

pub turn_key : (alone : Bool) (a b : DeskState) (e : Turned) (key : Option Key) → CallsBeside alone a e b → HoldsKnown a.seat a.knows key → HoldsKnown b.seat b.knows (key_after key e.asked.call e.asked.answer)
turn_key alone a b e key c h =
    let r = c.rows in
    let asks = beside_key a.seat c.mid e.before r.asks key (before_takes e.asked.call e.before e.after r.beside) r.before (drift_key alone a.seat a.knows c.mid key c.drift h) in
    let answers = own_key a.seat e.before e.after r.asks e.asked r.answers key r.beside r.own asks in
    subst (λ (seat : ℕ). HoldsKnown seat b.knows (key_after key e.asked.call e.asked.answer)) (sym c.seat) (beside_key a.seat r.answers e.after b.knows _ (after_takes e.asked.call e.before e.after r.beside) r.after answers)

pub chain_key : (alone : Bool) (a b : DeskState) (es : List Turned) (key : Option Key) → Turns alone a es b → HoldsKnown a.seat a.knows key → HoldsKnown b.seat b.knows (keys_along key (asked_of es))
chain_key alone a b [] key same h = subst (λ (d : DeskState). HoldsKnown d.seat d.knows key) (sym same) h
chain_key alone a b (e ∷ es) key (mid, made, rest) h = chain_key alone mid b es _ rest (turn_key alone a mid e key made h)
