-- What a seat holds after a call of its session, in the session's own terms.
use Rattle.std.proofs.Common.{◌≡◌, ◌⊎◌, ◌∙◌, ℕ, ◌-◌, true, false, List, [], ◌∷◌, ◌++◌, Option, Some, length, length-append, refl, sym, ap, arith, inl, inr}
use Rattle.ftn_addr.specs.Key.{Key}
use Rattle.node_model.specs.Node.{Hold, Session, Node, session_at, hold_in}
use Rattle.node_model.specs.Rows.{FileAnswer, Have, Refuse, Elsewhere, Go, Whole, From, Late, FileMade, Applies, released, unheld}
use Rattle.node_model.specs.Calls.{Call, Queue_call, Offer_call, Read_call, Got_call, Skip_call, File_call, Data_call, Knock_call, Open_call, Leave_call, Act_call, Give_call, Answer, Queued, Offered, Nothing, Came, Settled, Filed, More, Whole_now, Refused, Disk, Read, Full, No_memory, Event, Made, NodeStep, OneQueue, IsQueue}
use Rattle.node_model.specs.Desks.{held_after, less}
use Rattle.node_model.specs.Images.{Settles, AllSettle}
use Rattle.node_model.specs.Talk.{Part, part_of, part_at}
use Rattle.node_model.proofs.Moves.{offer-moved, got-moved, skip-moved, more-moved, whole-moved, released-moved}
use Rattle.node_model.proofs.SeatSessions.{session_at-with_session}
use Rattle.world_pair.specs.Course.{Makes}
use Rattle.world_pair.proofs.Short.{InSession}

abbrev pub part_in : Option Session → Option Part
part_in s = part_of (hold_in s)

-- the seat's session is that
here : (seat : ℕ) (n : Node) (s : Option Session) → session_at n seat ≡ s → part_at n seat ≡ part_in s
here seat n s at = ap part_in at

-- it holds what it held
still : (seat : ℕ) (old new : Node) (s t : Session) → session_at new seat ≡ Some t → t.hold ≡ s.hold → session_at old seat ≡ Some s → part_at new seat ≡ part_at old seat
still seat old new s t now same has = here seat new (Some t) now ∙ (ap part_of same ∙ sym (here seat old (Some s) has))

file_part : (seat : ℕ) (s : Session) (key : Key) (offset : ℕ) (answer : FileAnswer) (old new : Node) (before : Option Part) → Applies seat (unheld s) key offset answer (released seat s old) → FileMade seat (unheld s) key answer (released seat s old) new → part_at new seat ≡ held_after before (File_call key offset) (Filed answer)
file_part seat s key offset Refuse old new before applies made = ap (λ (n : Node). part_at n seat) made ∙ here seat (released seat s old) (Some (unheld s)) (released-moved old seat s).here
file_part seat s key offset Have old new before applies made = ap (λ (n : Node). part_at n seat) made ∙ here seat (released seat s old) (Some (unheld s)) (released-moved old seat s).here
file_part seat s key offset Elsewhere old new before applies made = ap (λ (n : Node). part_at n seat) made ∙ here seat (released seat s old) (Some (unheld s)) (released-moved old seat s).here
file_part seat s key offset Late old new before applies made = ap (λ (n : Node). part_at n seat) made ∙ here seat (released seat s old) (Some (unheld s)) (released-moved old seat s).here
file_part seat s key offset Whole old new before applies made = ap (λ (n : Node). part_at n seat) made.2 ∙ here seat (released seat s old) (Some (unheld s)) (released-moved old seat s).here
file_part seat s key offset Go old new before applies made =
    ap (λ (n : Node). part_at n seat) made.2 ∙ (ap part_in (session_at-with_session seat _ (released seat s old)) ∙ ap (λ (place : ℕ). Some (record { key = key; left = key.size - place; taking = true })) (sym applies.1))
file_part seat s key offset (From place) old new before applies made =
    ap (λ (n : Node). part_at n seat) made.2 ∙ (ap part_in (session_at-with_session seat _ (released seat s old)) ∙ ap (λ (p : ℕ). Some (record { key = key; left = key.size - p; taking = false })) (sym applies.1))

left_less : (size : ℕ) (a b : List ℕ) → size - length (a ++ b) ≡ (size - length a) - length b
left_less size a b = ap (λ (n : ℕ). size - n) (length-append a b) ∙ (omega arith)

made_part : (seat : ℕ) (old : Node) (call : Call) (answer : Answer) (new : Node) → InSession call → Made seat old call answer new → part_at new seat ≡ held_after (part_at old seat) call answer
made_part seat old Offer_call (Offered number key) new within r = still seat old new r.3.session _ (offer-moved old new seat r.0 r.3).here refl r.3.has
made_part seat old Offer_call Nothing new within r = ap (λ (n : Node). part_at n seat) r.after
made_part seat old (Read_call place room) (Came bytes) new within r = ap (λ (n : Node). part_at n seat) r.after
made_part seat old (Got_call number) Settled new within r = still seat old new r.session _ (got-moved old new seat number r).here refl r.has
made_part seat old (Skip_call number) Settled new within r = still seat old new r.session _ (skip-moved old new seat number r).here refl r.has
made_part seat old (File_call key offset) (Filed answer) new within r = file_part seat r.session key offset answer old new (part_at old seat) r.applies r.made
made_part seat old (Data_call bytes) More new within r =
    here seat new _ (more-moved old new seat bytes r).here
    ∙ (ap (λ (left : ℕ). Some (record { key = r.hold.key; left = left; taking = r.hold.taking })) (left_less r.hold.key.size r.hold.bytes bytes)
    ∙ sym (ap (λ (s : Option Session). less (length bytes) (part_in s)) r.has ∙ ap (λ (h : Option Hold). less (length bytes) (part_of h)) r.holds))
made_part seat old (Data_call bytes) Whole_now new within r = here seat new _ (whole-moved old new seat bytes r).here
made_part seat old (Queue_call files taken answered) answer new within r = absurd within
made_part seat old (Knock_call role) answer new within r = absurd within
made_part seat old (Open_call role peers secure moment) answer new within r = absurd within
made_part seat old Leave_call answer new within r = absurd within
made_part seat old (Act_call dest) answer new within r = absurd within
made_part seat old Give_call answer new within r = absurd within
made_part seat old call answer new within r = absurd r

-- an answer of a row that leaves its session open is no refusal
abbrev pub Answers_it : Answer → Type 0
Answers_it (Refused fault) = ⊥
Answers_it answer = Unit {0}

step_made : (seat : ℕ) (old : Node) (call : Call) (answer : Answer) (new : Node) → Answers_it answer → NodeStep seat old call answer new → Made seat old call answer new
step_made seat old call (Refused fault) new a step = absurd a
step_made seat old call answer new a step = step.1

-- a call of a row that leaves its session open
pub call_part : (seat : ℕ) (old : Node) (call : Call) (answer : Answer) (new : Node) → InSession call → Answers_it answer → NodeStep seat old call answer new → part_at new seat ≡ held_after (part_at old seat) call answer
call_part seat old call answer new within a step = made_part seat old call answer new within (step_made seat old call answer new a step)

-- files that are queued leave what is held, unless the disk failed in that
queue_part : (seat : ℕ) (old : Node) (call : Call) (answer : Answer) (new : Node) → IsQueue call → Settles answer → NodeStep seat old call answer new → part_at new seat ≡ part_at old seat
queue_part seat old (Queue_call files taken answered) (Queued slots) new q s step = ap (λ (n : Node). part_at n seat) step.1.after
queue_part seat old (Queue_call files taken answered) (Refused (Disk count)) new q s step = absurd s
queue_part seat old (Queue_call files taken answered) (Refused (Read count)) new q s step = absurd step.0
queue_part seat old (Queue_call files taken answered) (Refused Full) new q s step = ap (λ (n : Node). part_at n seat) step.2.after
queue_part seat old (Queue_call files taken answered) (Refused No_memory) new q s step = ap (λ (n : Node). part_at n seat) step.2.after
queue_part seat old (Queue_call files taken answered) answer new q s step = absurd step.1
queue_part seat old call answer new q s step = absurd q

pub behind_part : (seat : ℕ) (old : Node) (es : List Event) (new : Node) → (es ≡ []) ⊎ OneQueue es → AllSettle es → Makes seat old es new → part_at new seat ≡ part_at old seat
behind_part seat old [] new q s rows = ap (λ (n : Node). part_at n seat) rows
behind_part seat old (e ∷ []) new (inl none) s rows = absurd (cc)
behind_part seat old (e ∷ []) new (inr q) s (mid, step, same) = ap (λ (n : Node). part_at n seat) same ∙ queue_part seat old e.call e.answer mid q s.0 step
behind_part seat old (e ∷ f ∷ es) new (inl none) s rows = absurd (cc)
behind_part seat old (e ∷ f ∷ es) new (inr q) s rows = absurd q
