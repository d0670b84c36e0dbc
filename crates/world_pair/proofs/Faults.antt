-- A disk fault inside a take is a stop of the world: of nothing, after the mark, or after all that the take changes.
use Rattle.std.proofs.Common.{◌≡◌, ℕ, ◌≤◌, true, List, [], ◌∷◌, Option, Some, None, length, refl, sym, ap, ◌∙◌, subst, inl, inr}
use Rattle.ftn_addr.specs.Key.{Key}
use Rattle.node_model.specs.Durable.{Durable}
use Rattle.node_model.specs.Node.{Hold, Seat, Node, session_at, hold_in}
use Rattle.node_model.specs.Rows.{Have, Refuse, Elsewhere, Go, Whole, From, Late, mark_any}
use Rattle.node_model.specs.Calls.{Disk, Call, Answer, Event, one, Got_call, Skip_call, File_call, Data_call, Settled, Filed, More, Whole_now, Refused, Made, NodeStep, Breaks as Broke_in, Passes, Before_it, Marked, After_it}
use Rattle.node_model.specs.Talk.{Message, File, Data, Got, Get, Skip, End, Sending, Part, part_at, Verdict, on, Nothing_held, Drops, Exceeds, Fits, Settles, Passes_got, Skips, Passes_skip, Resends, Passes_get, TakeRow}
use Rattle.world_pair.specs.Course.{Course, Makes, skipped, course_after, StaysOpen, is_disk, HasDisk, TakeMade, TakeBreaks}
use Rattle.world_pair.proofs.Broken.{BreaksTo}
use Rattle.world_pair.proofs.Inverts.{one_call}
use Rattle.world_pair.proofs.Short.{Short, No_call, One_call, take_short}
use Rattle.node_model.proofs.Lists.{off, none_some}

-- what a take with a fault leaves
pub data Fault (seat : ℕ) (n : Node) (t : Course) (d : Durable) (message : Message) : Type 0 where
  Nothing_made : d ≡ n.state → Fault seat n t d message
  Mark_made : d ≡ mark_any (hold_in (session_at n seat)) n.state → Fault seat n t d message
  All_made : (x : Node) (u : Course) (sent : List Message) → TakeMade seat n t x u sent message → d ≡ x.state → Fault seat n t d message

all_made : (seat : ℕ) (n : Node) (t : Course) (d : Durable) (x : Node) (message : Message) (call : Call) (answer : Answer) (v : Verdict) → TakeRow (part_at n seat) t.now message (one call answer) v → StaysOpen v.outcome → NodeStep seat n call answer x → d ≡ x.state → Fault seat n t d message
all_made seat n t d x message call answer v row open_still step e =
    All_made x (course_after t (one call answer) (skipped message t.met_skip) v.after) v.said (record { events = one call answer; verdict = v; row = row; chain = (x, step, refl); open_still = open_still; said = refl; after = refl }) e

pub filed_fault : (seat : ℕ) (n : Node) (t : Course) (d : Durable) (x : Node) (key : Key) (offset : ℕ) (answer : Answer) → n.broken ≡ None → Made seat n (File_call key offset) answer x → d ≡ x.state → Fault seat n t d (File key offset)
filed_fault seat n t d x key offset (Filed Have) b made e = all_made seat n t d x _ _ (Filed Have) (on t.now (Got key ∷ [])) (record { answer = Filed Have; asks = refl; then = refl }) tt (inl b, made) e
filed_fault seat n t d x key offset (Filed Refuse) b made e = all_made seat n t d x _ _ (Filed Refuse) (on t.now (Got key ∷ [])) (record { answer = Filed Refuse; asks = refl; then = refl }) tt (inl b, made) e
filed_fault seat n t d x key offset (Filed Whole) b made e = all_made seat n t d x _ _ (Filed Whole) (on t.now (Got key ∷ [])) (record { answer = Filed Whole; asks = refl; then = refl }) tt (inl b, made) e
filed_fault seat n t d x key offset (Filed Elsewhere) b made e = all_made seat n t d x _ _ (Filed Elsewhere) (on t.now (Skip key ∷ [])) (record { answer = Filed Elsewhere; asks = refl; then = refl }) tt (inl b, made) e
filed_fault seat n t d x key offset (Filed (From place)) b made e = all_made seat n t d x _ _ (Filed (From place)) (on t.now (Get key place ∷ [])) (record { answer = Filed (From place); asks = refl; then = refl }) tt (inl b, made) e
filed_fault seat n t d x key offset (Filed Go) b made e = all_made seat n t d x _ _ (Filed Go) (on t.now []) (record { answer = Filed Go; asks = refl; then = refl }) tt (inl b, made) e
filed_fault seat n t d x key offset (Filed Late) b made e = Mark_made (e ∙ (ap (λ (y : Node). y.state) made.made ∙ ap (λ (o : Option Hold). mark_any o n.state) (sym (ap hold_in made.has))))
filed_fault seat n t d x key offset answer b made e = absurd made

pub data_fault : (seat : ℕ) (n : Node) (t : Course) (d : Durable) (x : Node) (bytes : List ℕ) (p : Part) (answer : Answer) → part_at n seat ≡ Some p → p.taking ≡ true → length bytes ≤ p.left → n.broken ≡ None → Made seat n (Data_call bytes) answer x → d ≡ x.state → Fault seat n t d (Data bytes)
data_fault seat n t d x bytes p More has taking fits b made e = all_made seat n t d x _ _ More (on t.now []) (Fits p has taking fits More refl refl) tt (inl b, made) e
data_fault seat n t d x bytes p Whole_now has taking fits b made e = all_made seat n t d x _ _ Whole_now (on t.now (Got p.key ∷ [])) (Fits p has taking fits Whole_now refl refl) tt (inl b, made) e
data_fault seat n t d x bytes p answer has taking fits b made e = absurd made

pub got_fault : (seat : ℕ) (n : Node) (t : Course) (d : Durable) (x : Node) (key : Key) (s : Sending) (answer : Answer) → t.now.sending ≡ Some s → s.key ≡ key → n.broken ≡ None → Made seat n (Got_call s.number) answer x → d ≡ x.state → Fault seat n t d (Got key)
got_fault seat n t d x key s Settled under same b made e = all_made seat n t d x _ _ Settled (on (record (t.now) { sending = None }) []) (Settles s under same Settled refl refl) tt (inl b, made) e
got_fault seat n t d x key s answer under same b made e = absurd made

pub skip_fault : (seat : ℕ) (n : Node) (t : Course) (d : Durable) (x : Node) (key : Key) (s : Sending) (answer : Answer) → t.now.sending ≡ Some s → s.key ≡ key → n.broken ≡ None → Made seat n (Skip_call s.number) answer x → d ≡ x.state → Fault seat n t d (Skip key)
skip_fault seat n t d x key s Settled under same b made e = all_made seat n t d x _ _ Settled (on (record (t.now) { sending = None }) []) (Skips s under same Settled refl refl) tt (inl b, made) e
skip_fault seat n t d x key s answer under same b made e = absurd made

-- by what the failing call passed
broke : (seat : ℕ) (n : Node) (t : Course) (m : Node) (message : Message) (call : Call) (answer : Answer) → is_disk answer ≡ true → NodeStep seat n call answer m → ((a : Answer) (x : Node) → n.broken ≡ None → Made seat n call a x → m.state ≡ x.state → Fault seat n t m.state message) → Fault seat n t m.state message
broke seat n t m message call (Refused (Disk count)) yes_disk (_, inl r) all = Nothing_made (ap (λ (y : Node). y.state) r.1)
broke seat n t m message call (Refused (Disk count)) yes_disk (_, inr r) all = by_passes r.passes
  where
    by_passes : Passes seat n call m.state → Fault seat n t m.state message
    by_passes (Before_it e) = Nothing_made e
    by_passes (Marked b first e) = Mark_made e
    by_passes (After_it b a x made e) = all a x b made e
broke seat n t m message call answer yes_disk step all = off (sym yes_disk)

at : (seat : ℕ) (n m : Node) (es : List Event) (call : Call) (answer : Answer) → es ≡ one call answer → Makes seat n es m → HasDisk es → (is_disk answer ≡ true) × NodeStep seat n call answer m
at seat n m es call answer e chain disk = (subst HasDisk e disk, one_call seat n m call answer (subst (λ (l : List Event). Makes seat n l m) e chain))

none_failed : {A : Type 0} (es : List Event) → es ≡ [] → HasDisk es → A
none_failed es e disk = absurd (subst HasDisk e disk)

pub fault_of : (seat : ℕ) (n : Node) (t : Course) (m : Node) (message : Message) (es : List Event) (v : Verdict) → TakeRow (part_at n seat) t.now message es v → Makes seat n es m → HasDisk es → Fault seat n t m.state message
fault_of seat n t m (File key offset) es v r chain disk = let s = at seat n m es _ r.answer r.asks chain disk in broke seat n t m _ (File_call key offset) r.answer s.0 s.1 (λ a x b made e. filed_fault seat n t m.state x key offset a b made e)
fault_of seat n t m (Data bytes) es v (Nothing_held a none c) chain disk = none_failed es none disk
fault_of seat n t m (Data bytes) es v (Drops p a b none c) chain disk = none_failed es none disk
fault_of seat n t m (Data bytes) es v (Exceeds h a b c none d) chain disk = none_failed es none disk
fault_of seat n t m (Data bytes) es v (Fits p has taking fits answer asks then) chain disk = let s = at seat n m es _ answer asks chain disk in broke seat n t m _ (Data_call bytes) answer s.0 s.1 (λ a x b made e. data_fault seat n t m.state x bytes p a has taking fits b made e)
fault_of seat n t m (Got key) es v (Passes_got a none c) chain disk = none_failed es none disk
fault_of seat n t m (Got key) es v (Settles s under same answer asks then) chain disk = let p = at seat n m es _ answer asks chain disk in broke seat n t m _ (Got_call s.number) answer p.0 p.1 (λ a x b made e. got_fault seat n t m.state x key s a under same b made e)
fault_of seat n t m (Skip key) es v (Passes_skip a none c) chain disk = none_failed es none disk
fault_of seat n t m (Skip key) es v (Skips s under same answer asks then) chain disk = let p = at seat n m es _ answer asks chain disk in broke seat n t m _ (Skip_call s.number) answer p.0 p.1 (λ a x b made e. skip_fault seat n t m.state x key s a under same b made e)
fault_of seat n t m (Get key offset) es v (Passes_get a none c) chain disk = none_failed es none disk
fault_of seat n t m (Get key offset) es v (Resends s a b c none d) chain disk = none_failed es none disk
fault_of seat n t m End es v r chain disk = none_failed es r.0 disk

-- a call that broke the store
pub breaks_to : (seat : ℕ) (n : Node) (call : Call) (count : ℕ) (m : Node) (d : Durable) → Broke_in seat n call count m → m.state ≡ d → BreaksTo seat n d m
breaks_to seat n call count m d b state =
    record { unbroken = b.unbroken; count = count; broken = b.broken; state = state; settings = b.settings; others = λ k apart. ap (λ (x : Seat). x.session) (b.others k apart); own = b.own }

broke_in : (seat : ℕ) (n : Node) (call : Call) (answer : Answer) (m : Node) → n.broken ≡ None → is_disk answer ≡ true → NodeStep seat n call answer m → BreaksTo seat n m.state m
broke_in seat n call (Refused (Disk count)) m unbroken disk (_, inl r) = none_some (sym unbroken ∙ r.0)
broke_in seat n call (Refused (Disk count)) m unbroken disk (_, inr b) = breaks_to seat n call count m m.state b refl
broke_in seat n call answer m unbroken disk step = off (sym disk)

by_short : (seat : ℕ) (n m : Node) (es : List Event) → n.broken ≡ None → Short es → Makes seat n es m → HasDisk es → BreaksTo seat n m.state m
by_short seat n m es unbroken (No_call none) chain disk = none_failed es none disk
by_short seat n m es unbroken (One_call call answer within asks) chain disk = let s = at seat n m es call answer asks chain disk in broke_in seat n call answer m unbroken s.0 s.1

pub breaks_of : (seat : ℕ) (n : Node) (t : Course) (m : Node) (message : Message) → TakeBreaks seat n t m message → BreaksTo seat n m.state m
breaks_of seat n t m message b = by_short seat n m b.events b.unbroken (take_short (part_at n seat) t.now message b.events b.verdict b.row) b.chain b.disk
