-- Each record that a row adds names no session but its seat's.
use Rattle.std.proofs.Common.{◌≡◌, ℕ, Bool, true, false, if◌then◌else◌, List, [], ◌∷◌, ◌++◌, Option, Some, None, refl, sym, ◌∙◌, ap, inl, inr}
use mathlib.Core.List.{append-nil, append_assoc}
use Rattle.ftn_addr.specs.Key.{Key}
use Rattle.node_model.specs.Durable.{Durable}
use Rattle.node_model.specs.Lists.{Each}
use Rattle.node_model.specs.Node.{Hold, Session, Node, Record, Acted_record, Logged, session_at}
use Rattle.node_model.specs.Rows.{FileAnswer, Have, Refuse, Elsewhere, Go, Whole, From, Late, FileMade, all_by, by, marks_any, stride_records, at_stride, is_ahead, mark_record, released, unheld, grown}
use Rattle.node_model.specs.SendRows.{NewFile, Slot, New, Again, queue_records, taken_records, answered_records, queued_records}
use Rattle.node_model.specs.Calls.{Call, Queue_call, Knock_call, Open_call, Offer_call, Read_call, Got_call, Skip_call, File_call, Data_call, Leave_call, Act_call, Give_call, Answer, Queued, Let_in, Busy, Begun, Offered, Nothing, Came, Settled, Filed, More, Whole_now, Acted, Given, Held, Made}
use Rattle.shared_desk.specs.Records.{session_named, IsOwnRecord, OwnLog}

own_none : (seat : ℕ) (old : Node) (log new : List Logged) → new ≡ log → OwnLog seat old log new
own_none seat old log new same = record { rest = []; grows = same ∙ sym (append-nil log); own = tt }

each_append : (P : Logged → Type 0) (xs ys : List Logged) → Each P xs → Each P ys → Each P (xs ++ ys)
each_append P [] ys x y = y
each_append P (z ∷ zs) ys x y = (x.0, each_append P zs ys x.1 y)

own_then : (seat : ℕ) (old : Node) (a b c : List Logged) → OwnLog seat old a b → OwnLog seat old b c → OwnLog seat old a c
own_then seat old a b c x y =
    record { rest = x.rest ++ y.rest; grows = y.grows ∙ (ap (λ (l : List Logged). l ++ y.rest) x.grows ∙ append_assoc a x.rest y.rest); own = each_append (IsOwnRecord seat old) x.rest y.rest x.own y.own }

nameless : (seat : ℕ) (old : Node) (r : Record) → session_named r ≡ None → IsOwnRecord seat old (record { seat = seat; entry = r })
nameless seat old r none = record { by_seat = refl; names = λ n e. absurd (let clash : None ≡ Some n = sym none ∙ e in cc) }

some_number : (a b : ℕ) → Some a ≡ Some b → a ≡ b
some_number a b e = cc

named : (seat : ℕ) (old : Node) (r : Record) (s : Session) → session_at old seat ≡ Some s → session_named r ≡ Some s.number → IsOwnRecord seat old (record { seat = seat; entry = r })
named seat old r s has is = record { by_seat = refl; names = λ n e. record { session = s; has = has; numbered = some_number s.number n (sym is ∙ e) } }

own_if : (seat : ℕ) (old : Node) (b : Bool) (rs : List Logged) → Each (IsOwnRecord seat old) rs → Each (IsOwnRecord seat old) (if b then rs else [])
own_if seat old true rs m = m
own_if seat old false rs m = tt

own_marks : (seat : ℕ) (old : Node) (o : Option Hold) (d : Durable) → Each (IsOwnRecord seat old) (marks_any seat o d)
own_marks seat old None d = tt
own_marks seat old (Some h) d = own_if seat old (is_ahead h d) (by seat (mark_record h)) (nameless seat old (mark_record h) refl, tt)

own_stride : (seat : ℕ) (old : Node) (h : Hold) (d : Durable) → Each (IsOwnRecord seat old) (stride_records seat h d)
own_stride seat old h d = own_if seat old (at_stride h d) (by seat (mark_record h)) (nameless seat old (mark_record h) refl, tt)

-- Queueing names no session.

plain_files : (files : List NewFile) (slots : List Slot) → Each (λ (r : Record). session_named r ≡ None) (queue_records files slots)
plain_files [] slots = tt
plain_files (f ∷ files) [] = tt
plain_files (f ∷ files) (New number ∷ slots) = (refl, plain_files files slots)
plain_files (f ∷ files) (Again number ∷ slots) = plain_files files slots

plain_append : (xs ys : List Record) → Each (λ (r : Record). session_named r ≡ None) xs → Each (λ (r : Record). session_named r ≡ None) ys → Each (λ (r : Record). session_named r ≡ None) (xs ++ ys)
plain_append [] ys x y = y
plain_append (z ∷ zs) ys x y = (x.0, plain_append zs ys x.1 y)

plain_taken : (o : Option ℕ) → Each (λ (r : Record). session_named r ≡ None) (taken_records o)
plain_taken None = tt
plain_taken (Some take) = (refl, tt)

plain_answered : (o : Option ℕ) → Each (λ (r : Record). session_named r ≡ None) (answered_records o)
plain_answered None = tt
plain_answered (Some receipt) = (refl, tt)

plain_queued : (files : List NewFile) (taken answered : Option ℕ) (slots : List Slot) → Each (λ (r : Record). session_named r ≡ None) (queued_records files taken answered slots)
plain_queued files taken answered slots =
    plain_append (queue_records files slots ++ taken_records taken) (answered_records answered) (plain_append (queue_records files slots) (taken_records taken) (plain_files files slots) (plain_taken taken)) (plain_answered answered)

own_plain : (seat : ℕ) (old : Node) (rs : List Record) → Each (λ (r : Record). session_named r ≡ None) rs → Each (IsOwnRecord seat old) (all_by seat rs)
own_plain seat old [] p = tt
own_plain seat old (r ∷ rs) p = (nameless seat old r p.0, own_plain seat old rs p.1)

-- Rows.

log_of : (a b : Node) → a ≡ b → a.log ≡ b.log
log_of a b e = ap (λ (n : Node). n.log) e

one_named : (seat : ℕ) (old : Node) (log : List Logged) (new : Node) (r : Record) (s : Session) → session_at old seat ≡ Some s → session_named r ≡ Some s.number → new.log ≡ log ++ by seat r → OwnLog seat old log new.log
one_named seat old log new r s has is e = record { rest = by seat r; grows = e; own = (named seat old r s has is, tt) }

still : (seat : ℕ) (old new : Node) → new.log ≡ old.log → OwnLog seat old old.log new.log
still seat old new e = own_none seat old old.log new.log e

file_own : (seat : ℕ) (old : Node) (s : Session) (key : Key) (answer : FileAnswer) (n new : Node) → session_at old seat ≡ Some s → FileMade seat (unheld s) key answer n new → OwnLog seat old n.log new.log
file_own seat old s key Refuse n new has m = one_named seat old n.log new _ s has refl (log_of new _ m)
file_own seat old s key Go n new has m = own_none seat old n.log new.log (log_of new _ m.2)
file_own seat old s key Whole n new has m = one_named seat old n.log new _ s has refl (log_of new _ m.2)
file_own seat old s key (From place) n new has m = own_none seat old n.log new.log (log_of new _ m.2)
file_own seat old s key Have n new has m = own_none seat old n.log new.log (log_of new _ m)
file_own seat old s key Elsewhere n new has m = own_none seat old n.log new.log (log_of new _ m)
file_own seat old s key Late n new has m = own_none seat old n.log new.log (log_of new _ m)

pub made_own : (seat : ℕ) (old : Node) (call : Call) (answer : Answer) (new : Node) → Made seat old call answer new → OwnLog seat old old.log new.log
made_own seat old (Queue_call files taken answered) (Queued slots) new row =
    record { rest = all_by seat (queued_records files taken answered slots); grows = log_of new _ row.after; own = own_plain seat old (queued_records files taken answered slots) (plain_queued files taken answered slots) }
made_own seat old (Knock_call role) Let_in new row = still seat old new (log_of new _ row.after)
made_own seat old (Knock_call role) Busy new row = still seat old new (log_of new _ row.after)
made_own seat old (Open_call role peers secure moment) (Begun number) new row = still seat old new (log_of new _ row.1.after)
made_own seat old Offer_call (Offered number key) new row = still seat old new (log_of new _ row.3.after)
made_own seat old Offer_call Nothing new row = still seat old new (log_of new _ row.after)
made_own seat old (Read_call place room) (Came bytes) new row = still seat old new (log_of new _ row.after)
made_own seat old (Got_call number) Settled new row = one_named seat old old.log new _ row.session row.has refl (log_of new _ row.after)
made_own seat old (Skip_call number) Settled new row = still seat old new (log_of new _ row.after)
made_own seat old (File_call key offset) (Filed answer) new row =
    own_then seat old old.log (released seat row.session old).log new.log
    (record { rest = marks_any seat row.session.hold old.state; grows = refl; own = own_marks seat old row.session.hold old.state })
    (file_own seat old row.session key answer (released seat row.session old) new row.has row.made)
made_own seat old (Data_call bytes) More new row =
    record { rest = stride_records seat (grown row.hold bytes) old.state; grows = log_of new _ row.after; own = own_stride seat old (grown row.hold bytes) old.state }
made_own seat old (Data_call bytes) Whole_now new row = one_named seat old old.log new _ row.session row.has refl (log_of new _ row.after)
made_own seat old Leave_call Settled new (inl row) =
    record { rest = marks_any seat row.session.hold old.state; grows = log_of new _ row.after; own = own_marks seat old row.session.hold old.state }
made_own seat old Leave_call Settled new (inr row) = still seat old new (log_of new _ row.1)
made_own seat old (Act_call dest) (Acted number) new row = record { rest = by seat (Acted_record number); grows = log_of new _ row.after; own = (nameless seat old (Acted_record number) refl, tt) }
made_own seat old (Act_call dest) Nothing new row = still seat old new (log_of new _ row.after)
made_own seat old Give_call (Given number) new row = still seat old new (log_of new _ row.after)
made_own seat old Give_call (Held number) new row = still seat old new (log_of new _ row.after)
made_own seat old Give_call Nothing new row = still seat old new (log_of new _ row.after)
made_own seat old _ _ new row = absurd row
