-- A step of a node that a desk tells has its causes in the counts.
use Rattle.std.proofs.Common.{◌≡◌, ℕ, Some, ap, ◌∙◌, inl, inr, sym, subst}
use Rattle.ftn_addr.specs.Counts.{Increased, next_count}
use Rattle.ftn_addr.proofs.CountsGrow.{increased-next_count}
use Rattle.ftn_addr.specs.Key.{Key}
use Rattle.node_model.specs.Node.{Session, Node}
use Rattle.node_model.specs.Rows.{FileAnswer, Have, Refuse, Elsewhere, Go, Whole, From, Late, FileMade, released, unheld}
use Rattle.node_model.specs.Calls.{Call, Queue_call, Knock_call, Open_call, Offer_call, Read_call, Got_call, Skip_call, File_call, Data_call, Leave_call, Act_call, Give_call, Fault, Disk, Read, Full, No_memory, Answer, Queued, Let_in, Busy, Begun, Offered, Nothing, Came, Settled, Filed, More, Whole_now, Acted, Given, Held, Refused, Made, Breaks, Unmade, FindsFull, MayFindFull, NotMade, NodeStep, Counts, Tells, counts_of, Caused}

abbrev pub counts : Node → Counts
counts n = counts_of (Tells n)

same_counts : (old new : Node) → new ≡ old → counts new ≡ counts old
same_counts old new same = ap counts same

file_counts : (seat : ℕ) (s : Session) (key : Key) (answer : FileAnswer) (n new : Node) → FileMade seat s key answer n new → counts new ≡ counts n
file_counts seat s key Refuse n new made = ap counts made
file_counts seat s key Go n new made = ap counts made.2
file_counts seat s key Whole n new made = ap counts made.2
file_counts seat s key (From place) n new made = ap counts made.2
file_counts seat s key Have n new made = ap counts made
file_counts seat s key Elsewhere n new made = ap counts made
file_counts seat s key Late n new made = ap counts made

-- what isn't refused leaves the counts
pub made_counts : (seat : ℕ) (old : Node) (call : Call) (answer : Answer) (new : Node) → Made seat old call answer new → counts new ≡ counts old
made_counts seat old (Queue_call files taken answered) (Queued slots) new row = ap counts row.after
made_counts seat old (Knock_call role) Let_in new row = ap counts row.after
made_counts seat old (Knock_call role) Busy new row = ap counts row.after
made_counts seat old (Open_call role peers secure moment) (Begun number) new row = ap counts row.1.after
made_counts seat old Offer_call (Offered number key) new row = ap counts row.3.after
made_counts seat old Offer_call Nothing new row = ap counts row.after
made_counts seat old (Read_call place room) (Came bytes) new row = ap counts row.after
made_counts seat old (Got_call number) Settled new row = ap counts row.after
made_counts seat old (Skip_call number) Settled new row = ap counts row.after
made_counts seat old (File_call key offset) (Filed answer) new row = file_counts seat (unheld row.session) key answer (released seat row.session old) new row.made
made_counts seat old (Data_call bytes) More new row = ap counts row.after
made_counts seat old (Data_call bytes) Whole_now new row = ap counts row.after
made_counts seat old Leave_call Settled new (inl row) = ap counts row.after
made_counts seat old Leave_call Settled new (inr row) = ap counts row.1
made_counts seat old (Act_call dest) (Acted number) new row = ap counts row.after
made_counts seat old (Act_call dest) Nothing new row = ap counts row.after
made_counts seat old Give_call (Given number) new row = ap counts row.after
made_counts seat old Give_call (Held number) new row = ap counts row.after
made_counts seat old Give_call Nothing new row = ap counts row.after
made_counts seat old _ _ new row = absurd row

-- a call that finds no place or no memory counts in `fulls` alone
unmade_counts : (seat fulls : ℕ) (old : Node) (call : Call) (new : Node) → Unmade seat fulls old call new → counts new ≡ record (counts old) { fulls = fulls }
unmade_counts seat fulls old (File_call key offset) new u = ap counts u.after
unmade_counts seat fulls old (Queue_call files taken answered) new u = ap counts u.after
unmade_counts seat fulls old call new u = ap counts u

may_find : (seat : ℕ) (old : Node) (call : Call) → FindsFull seat old call → MayFindFull call
may_find seat old (Queue_call files taken answered) f = tt
may_find seat old (Open_call role peers secure moment) f = tt
may_find seat old Offer_call f = tt
may_find seat old (File_call key offset) f = tt
may_find seat old (Act_call dest) f = tt
may_find seat old call f = absurd f

broke_counts : (seat : ℕ) (old : Node) (call : Call) (count : ℕ) (new : Node) → Breaks seat old call count new → counts new ≡ record (counts old) { faults = count; broken = Some count }
broke_counts seat old call count new b = let broken = b.broken in let faults = b.faults in let fulls = b.fulls in cc

refused_caused : (seat : ℕ) (old : Node) (call : Call) (fault : Fault) (new : Node) → NotMade seat old call fault new → Caused (counts old) call (Refused fault) (counts new)
refused_caused seat old call (Disk count) new (may, inl same) = (may, inl (same.0, ap counts same.1))
refused_caused seat old call (Disk count) new (may, inr b) = (may, inr (b.unbroken, b.rose, broke_counts seat old call count new b))
refused_caused seat old call (Read count) new r = (r.0, r.1, r.2, ap counts r.3)
refused_caused seat old call Full new r =
    let now = unmade_counts seat (next_count old.fulls) old call new r.2 in
    let risen : new.fulls ≡ next_count old.fulls = ap (λ (c : Counts). c.fulls) now in
    (may_find seat old call r.1, r.0, subst (λ (n : ℕ). Increased old.fulls n) (sym risen) (increased-next_count old.fulls), now ∙ ap (λ (n : ℕ). record (counts old) { fulls = n }) (sym risen))
refused_caused seat old call No_memory new r = (r.1, r.0, unmade_counts seat old.fulls old call new r.2)

pub step_caused : (seat : ℕ) (old : Node) (call : Call) (answer : Answer) (new : Node) → NodeStep seat old call answer new → Caused (counts old) call answer (counts new)
step_caused seat old call (Refused fault) new s = refused_caused seat old call fault new s
step_caused seat old call (Queued slots) new s = (s.0, made_counts seat old call _ new s.1)
step_caused seat old call Let_in new s = (s.0, made_counts seat old call _ new s.1)
step_caused seat old call Busy new s = (s.0, made_counts seat old call _ new s.1)
step_caused seat old call (Begun number) new s = (s.0, made_counts seat old call _ new s.1)
step_caused seat old call (Offered number key) new s = (s.0, made_counts seat old call _ new s.1)
step_caused seat old call Nothing new s = (s.0, made_counts seat old call _ new s.1)
step_caused seat old call (Came bytes) new s = (s.0, made_counts seat old call _ new s.1)
step_caused seat old call Settled new s = (s.0, made_counts seat old call _ new s.1)
step_caused seat old call (Filed answer) new s = (s.0, made_counts seat old call _ new s.1)
step_caused seat old call More new s = (s.0, made_counts seat old call _ new s.1)
step_caused seat old call Whole_now new s = (s.0, made_counts seat old call _ new s.1)
step_caused seat old call (Acted number) new s = (s.0, made_counts seat old call _ new s.1)
step_caused seat old call (Given number) new s = (s.0, made_counts seat old call _ new s.1)
step_caused seat old call (Held number) new s = (s.0, made_counts seat old call _ new s.1)
