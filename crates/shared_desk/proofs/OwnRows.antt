-- The log goes on with records of the seat whose turn it is.
use Rattle.std.proofs.Common.{◌≡◌, ℕ, Bool, true, false, if◌then◌else◌, List, [], ◌∷◌, ◌++◌, Option, Some, None, refl, sym, ◌∙◌, ap, subst, inl, inr}
use mathlib.Core.List.{append-nil, append_assoc}
use Rattle.ftn_addr.specs.Key.{Key}
use Rattle.node_model.specs.Durable.{Durable}
use Rattle.node_model.specs.Lists.{Each}
use Rattle.node_model.specs.Node.{Hold, Session, Node, Record, Logged}
use Rattle.node_model.specs.Rows.{FileAnswer, Have, Refuse, Elsewhere, Go, Whole, From, Late, FileMade, all_by, by, marks_any, stride_records, at_stride, is_ahead, mark_record, released, unheld, grown}
use Rattle.node_model.specs.Calls.{Call, Queue_call, Knock_call, Open_call, Offer_call, Read_call, Got_call, Skip_call, File_call, Data_call, Leave_call, Act_call, Give_call, Fault, Disk, Read, Full, No_memory, Answer, Queued, Let_in, Busy, Begun, Offered, Nothing, Came, Settled, Filed, More, Whole_now, Acted, Given, Held, Refused, Event, Logs, Made, Unmade, NotMade, NodeStep, Knows, Tells, Counts_alone, KnownStep, DeskState, Turned, Beside, OwnRow, Made_row, Missing, Rowed, CallsBeside, Turns}
use Rattle.shared_desk.specs.Records.{LogsOn}
use Rattle.shared_desk.specs.Seen.{SeatTurn, Sight}

abbrev Mine : ℕ → List Logged → Type 0
Mine seat rs = Each (λ (r : Logged). r.seat ≡ seat) rs

logs : (seat : ℕ) (old new rest : List Logged) → new ≡ old ++ rest → Mine seat rest → Logs seat old new
logs seat old new rest grows own = record { rest = rest; grows = grows; own = own }

pub logs_none : (seat : ℕ) (old new : List Logged) → new ≡ old → Logs seat old new
logs_none seat old new same = logs seat old new [] (same ∙ sym (append-nil old)) tt

mine_append : (seat : ℕ) (xs ys : List Logged) → Mine seat xs → Mine seat ys → Mine seat (xs ++ ys)
mine_append seat [] ys x y = y
mine_append seat (z ∷ zs) ys x y = (x.0, mine_append seat zs ys x.1 y)

pub logs_then : (seat : ℕ) (a b c : List Logged) → Logs seat a b → Logs seat b c → Logs seat a c
logs_then seat a b c x y =
    logs seat a c (x.rest ++ y.rest) (y.grows ∙ (ap (λ (l : List Logged). l ++ y.rest) x.grows ∙ append_assoc a x.rest y.rest)) (mine_append seat x.rest y.rest x.own y.own)

mine_by : (seat : ℕ) (rs : List Record) → Mine seat (all_by seat rs)
mine_by seat [] = tt
mine_by seat (r ∷ rs) = (refl, mine_by seat rs)

mine_if : (seat : ℕ) (b : Bool) (rs : List Logged) → Mine seat rs → Mine seat (if b then rs else [])
mine_if seat true rs m = m
mine_if seat false rs m = tt

mine_marks : (seat : ℕ) (o : Option Hold) (d : Durable) → Mine seat (marks_any seat o d)
mine_marks seat None d = tt
mine_marks seat (Some h) d = mine_if seat (is_ahead h d) (by seat (mark_record h)) (refl, tt)

mine_stride : (seat : ℕ) (h : Hold) (d : Durable) → Mine seat (stride_records seat h d)
mine_stride seat h d = mine_if seat (at_stride h d) (by seat (mark_record h)) (refl, tt)

log_of : (a b : Node) → a ≡ b → a.log ≡ b.log
log_of a b e = ap (λ (n : Node). n.log) e

released_logs : (seat : ℕ) (s : Session) (n : Node) → Logs seat n.log (released seat s n).log
released_logs seat s n = logs seat n.log _ (marks_any seat s.hold n.state) refl (mine_marks seat s.hold n.state)

one_more : (seat : ℕ) (old new : Node) (r : Record) → new.log ≡ old.log ++ by seat r → Logs seat old.log new.log
one_more seat old new r e = logs seat old.log new.log (by seat r) e (refl, tt)

file_logs : (seat : ℕ) (s : Session) (key : Key) (answer : FileAnswer) (n new : Node) → FileMade seat s key answer n new → Logs seat n.log new.log
file_logs seat s key Refuse n new m = one_more seat n new _ (log_of new _ m)
file_logs seat s key Go n new m = logs_none seat n.log new.log (log_of new _ m.2)
file_logs seat s key Whole n new m = one_more seat n new _ (log_of new _ m.2)
file_logs seat s key (From place) n new m = logs_none seat n.log new.log (log_of new _ m.2)
file_logs seat s key Have n new m = logs_none seat n.log new.log (log_of new _ m)
file_logs seat s key Elsewhere n new m = logs_none seat n.log new.log (log_of new _ m)
file_logs seat s key Late n new m = logs_none seat n.log new.log (log_of new _ m)

still : (seat : ℕ) (old new : Node) → new.log ≡ old.log → Logs seat old.log new.log
still seat old new e = logs_none seat old.log new.log e

pub made_logs : (seat : ℕ) (old : Node) (call : Call) (answer : Answer) (new : Node) → Made seat old call answer new → Logs seat old.log new.log
made_logs seat old (Queue_call files taken answered) (Queued slots) new row = logs seat old.log new.log _ (log_of new _ row.after) (mine_by seat _)
made_logs seat old (Knock_call role) Let_in new row = still seat old new (log_of new _ row.after)
made_logs seat old (Knock_call role) Busy new row = still seat old new (log_of new _ row.after)
made_logs seat old (Open_call role peers secure moment) (Begun number) new row = still seat old new (log_of new _ row.1.after)
made_logs seat old Offer_call (Offered number key) new row = still seat old new (log_of new _ row.3.after)
made_logs seat old Offer_call Nothing new row = still seat old new (log_of new _ row.after)
made_logs seat old (Read_call place room) (Came bytes) new row = still seat old new (log_of new _ row.after)
made_logs seat old (Got_call number) Settled new row = one_more seat old new _ (log_of new _ row.after)
made_logs seat old (Skip_call number) Settled new row = still seat old new (log_of new _ row.after)
made_logs seat old (File_call key offset) (Filed answer) new row =
    logs_then seat old.log (released seat row.session old).log new.log (released_logs seat row.session old) (file_logs seat (unheld row.session) key answer (released seat row.session old) new row.made)
made_logs seat old (Data_call bytes) More new row = logs seat old.log new.log _ (log_of new _ row.after) (mine_stride seat (grown row.hold bytes) old.state)
made_logs seat old (Data_call bytes) Whole_now new row = one_more seat old new _ (log_of new _ row.after)
made_logs seat old Leave_call Settled new (inl row) = logs seat old.log new.log _ (log_of new _ row.after) (mine_marks seat row.session.hold old.state)
made_logs seat old Leave_call Settled new (inr row) = still seat old new (log_of new _ row.1)
made_logs seat old (Act_call dest) (Acted number) new row = one_more seat old new _ (log_of new _ row.after)
made_logs seat old (Act_call dest) Nothing new row = still seat old new (log_of new _ row.after)
made_logs seat old Give_call (Given number) new row = still seat old new (log_of new _ row.after)
made_logs seat old Give_call (Held number) new row = still seat old new (log_of new _ row.after)
made_logs seat old Give_call Nothing new row = still seat old new (log_of new _ row.after)
made_logs seat old _ _ new row = absurd row

unmade_logs : (seat fulls : ℕ) (old : Node) (call : Call) (new : Node) → Unmade seat fulls old call new → Logs seat old.log new.log
unmade_logs seat fulls old (File_call key offset) new u =
    logs_then seat old.log (released seat u.session old).log new.log (released_logs seat u.session old) (logs_none seat _ new.log (log_of new _ u.after))
unmade_logs seat fulls old (Queue_call files taken answered) new u = still seat old new (log_of new _ u.after)
unmade_logs seat fulls old call new u = still seat old new (log_of new _ u)

refused_logs : (seat : ℕ) (old : Node) (call : Call) (fault : Fault) (new : Node) → NotMade seat old call fault new → Logs seat old.log new.log
refused_logs seat old call (Disk count) new (may, inl same) = still seat old new (log_of new _ same.1)
refused_logs seat old call (Disk count) new (may, inr b) = b.log
refused_logs seat old call (Read count) new r = still seat old new (log_of new _ r.3)
refused_logs seat old call Full new r = unmade_logs seat _ old call new r.2
refused_logs seat old call No_memory new r = unmade_logs seat _ old call new r.2

pub step_logs : (seat : ℕ) (old : Node) (call : Call) (answer : Answer) (new : Node) → NodeStep seat old call answer new → Logs seat old.log new.log
step_logs seat old call (Refused fault) new s = refused_logs seat old call fault new s
step_logs seat old call (Queued slots) new s = made_logs seat old call _ new s.1
step_logs seat old call Let_in new s = made_logs seat old call _ new s.1
step_logs seat old call Busy new s = made_logs seat old call _ new s.1
step_logs seat old call (Begun number) new s = made_logs seat old call _ new s.1
step_logs seat old call (Offered number key) new s = made_logs seat old call _ new s.1
step_logs seat old call Nothing new s = made_logs seat old call _ new s.1
step_logs seat old call (Came bytes) new s = made_logs seat old call _ new s.1
step_logs seat old call Settled new s = made_logs seat old call _ new s.1
step_logs seat old call (Filed answer) new s = made_logs seat old call _ new s.1
step_logs seat old call More new s = made_logs seat old call _ new s.1
step_logs seat old call Whole_now new s = made_logs seat old call _ new s.1
step_logs seat old call (Acted number) new s = made_logs seat old call _ new s.1
step_logs seat old call (Given number) new s = made_logs seat old call _ new s.1
step_logs seat old call (Held number) new s = made_logs seat old call _ new s.1

-- Along the calls of a turn.

on_then : (seat : ℕ) (x y z : Knows) → LogsOn seat x y → LogsOn seat y z → LogsOn seat x z
on_then seat (Tells a) (Tells b) (Tells c) p q = logs_then seat a.log b.log c.log p q
on_then seat (Tells a) (Tells b) (Counts_alone c) p q = absurd q
on_then seat (Tells a) (Counts_alone b) z p q = absurd p
on_then seat (Counts_alone a) y z p q = tt

on_same : (seat : ℕ) (x y : Knows) → y ≡ x → LogsOn seat x y
on_same seat (Tells a) y e = subst (LogsOn seat (Tells a)) (sym e) (logs_none seat a.log a.log refl)
on_same seat (Counts_alone c) y e = tt

on_step : (seat : ℕ) (x : Knows) (call : Call) (answer : Answer) (y : Knows) → KnownStep seat x call answer y → LogsOn seat x y
on_step seat (Tells a) call answer (Tells b) s = step_logs seat a call answer b s
on_step seat (Tells a) call answer (Counts_alone c) s = absurd s
on_step seat (Counts_alone c) call answer y s = tt

on_beside : (seat : ℕ) (x : Knows) (es : List Event) (y : Knows) → Beside seat x es y → LogsOn seat x y
on_beside seat x [] y same = on_same seat x y same
on_beside seat x (e ∷ es) y (mid, caused, step, rest) = on_then seat x mid y (on_step seat x e.call e.answer mid step) (on_beside seat mid es y rest)

on_own : (seat : ℕ) (before : List Event) (x : Knows) (asked : Event) (y : Knows) → OwnRow seat before x asked y → LogsOn seat x y
on_own seat before x asked y (Made_row made caused step) = on_step seat x asked.call asked.answer y step
on_own seat before x asked y (Missing fault refused is same) = on_same seat x y same

on_rows : (seat : ℕ) (x : Knows) (e : Turned) (y : Knows) → Rowed seat x e y → LogsOn seat x y
on_rows seat x e y r =
    on_then seat x r.asks y (on_beside seat x e.before r.asks r.before) (on_then seat r.asks r.answers y (on_own seat e.before r.asks e.asked r.answers r.own) (on_beside seat r.answers e.after y r.after))

on_turn : (x : DeskState) (e : Turned) (y : DeskState) → CallsBeside true x e y → LogsOn x.seat x.knows y.knows
on_turn x e y c = on_then x.seat x.knows c.mid y.knows (on_same x.seat x.knows c.mid c.drift) (on_rows x.seat c.mid e y.knows c.rows)

on_turns : (x : DeskState) (es : List Turned) (y : DeskState) → Turns true x es y → LogsOn x.seat x.knows y.knows
on_turns x [] y same = subst (λ (z : DeskState). LogsOn x.seat x.knows z.knows) (sym same) (on_same x.seat x.knows x.knows refl)
on_turns x (e ∷ es) y (mid, made, rest) =
    on_then x.seat x.knows mid.knows y.knows (on_turn x e mid made) (subst (λ (s : ℕ). LogsOn s mid.knows y.knows) made.seat (on_turns mid es y rest))

-- in a turn of a seat the log goes on with records of that seat alone
pub turn_logs : {X : Type 0} (s : Sight X) (k : ℕ) (a b : X) → SeatTurn s k a b → LogsOn k (s.knows k a) (s.knows k b)
turn_logs s k a b t = subst (LogsOn k (s.knows k a)) (sym t.ran.tail.drift) (on_turns (record { seat = k; knows = s.knows k a }) t.events t.ran.last t.ran.chain)
