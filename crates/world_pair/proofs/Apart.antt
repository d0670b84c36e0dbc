-- A step of a seat leaves the sessions of all others as they are.
use Rattle.std.proofs.Common.{◌≡◌, ◌≢◌, ℕ, List, [], ◌∷◌, ap, ◌∙◌, inl, inr}
use Rattle.ftn_addr.specs.Key.{Key}
use Rattle.node_model.specs.Node.{Seat, Session, Node, session_at}
use Rattle.node_model.specs.Rows.{FileAnswer, Have, Refuse, Elsewhere, Go, Whole, From, Late, released, unheld}
use Rattle.node_model.specs.Calls.{Fault, Disk, Read, Full, No_memory, Call, Answer, Event, Queue_call, Knock_call, Open_call, Offer_call, Read_call, Got_call, Skip_call, File_call, Data_call, Leave_call, Act_call, Give_call, Queued, Let_in, Busy, Begun, Offered, Nothing, Came, Settled, Filed, More, Whole_now, Acted, Given, Held, Refused, Made, Unmade, NotMade, NodeStep}
use Rattle.node_model.proofs.Moves.{moved, put_apart, offer-moved, got-moved, skip-moved, leave-moved, open-moved, more-moved, whole-moved, released-moved}
use Rattle.world_pair.specs.Course.{Makes}
use Rattle.world_pair.proofs.Seen.{Answered}

answered_apart : (other : ℕ) (s : Session) (key : Key) (offset : ℕ) (x : FileAnswer) (n m : Node) (k : ℕ) → k ≢ other → Answered other s key offset x n m → session_at m k ≡ session_at n k
answered_apart other s key offset Have n m k apart a = ap (λ (y : Node). session_at y k) a.1
answered_apart other s key offset Refuse n m k apart a = ap (λ (y : Node). session_at y k) a.1
answered_apart other s key offset Elsewhere n m k apart a = ap (λ (y : Node). session_at y k) a.1
answered_apart other s key offset Go n m k apart a = (moved n m other _ n.state (ap (λ (y : Node). y.state) a.1.2) (ap (λ (y : Node). y.settings) a.1.2) (ap (λ (y : Node). y.broken) a.1.2) (ap (λ (y : Node). y.seats) a.1.2)).apart k apart
answered_apart other s key offset Whole n m k apart a = ap (λ (y : Node). session_at y k) a.1.2
answered_apart other s key offset (From place) n m k apart a = (moved n m other _ n.state (ap (λ (y : Node). y.state) a.1.2) (ap (λ (y : Node). y.settings) a.1.2) (ap (λ (y : Node). y.broken) a.1.2) (ap (λ (y : Node). y.seats) a.1.2)).apart k apart
answered_apart other s key offset Late n m k apart a = ap (λ (y : Node). session_at y k) a.1

made_apart : (other : ℕ) (n : Node) (call : Call) (answer : Answer) (m : Node) (k : ℕ) → k ≢ other → Made other n call answer m → session_at m k ≡ session_at n k
made_apart other n (Queue_call files taken answered) (Queued slots) m k apart r = ap (λ (y : Node). session_at y k) r.after
made_apart other n (Knock_call role) Let_in m k apart r = ap (λ (y : Node). session_at y k) r.after
made_apart other n (Knock_call role) Busy m k apart r = ap (λ (y : Node). session_at y k) r.after ∙ ap (λ (x : Seat). x.session) (put_apart other _ n.seats k apart)
made_apart other n (Open_call role peers secure moment) (Begun number) m k apart r = (open-moved n m other role peers secure moment r.1).apart k apart
made_apart other n Offer_call (Offered number key) m k apart (e, a, b, r) = (offer-moved n m other e r).apart k apart
made_apart other n Offer_call Nothing m k apart r = ap (λ (y : Node). session_at y k) r.after
made_apart other n (Read_call place room) (Came bytes) m k apart r = ap (λ (y : Node). session_at y k) r.after
made_apart other n (Got_call number) Settled m k apart r = (got-moved n m other number r).apart k apart
made_apart other n (Skip_call number) Settled m k apart r = (skip-moved n m other number r).apart k apart
made_apart other n (File_call key offset) (Filed x) m k apart r = answered_apart other (unheld r.session) key offset x (released other r.session n) m k apart (r.applies, r.made) ∙ (released-moved n other r.session).apart k apart
made_apart other n (Data_call bytes) More m k apart r = (more-moved n m other bytes r).apart k apart
made_apart other n (Data_call bytes) Whole_now m k apart r = (whole-moved n m other bytes r).apart k apart
made_apart other n Leave_call Settled m k apart (inl r) = (leave-moved n m other r).apart k apart
made_apart other n Leave_call Settled m k apart (inr r) = ap (λ (y : Node). session_at y k) r.1
made_apart other n (Act_call dest) (Acted number) m k apart r = ap (λ (y : Node). session_at y k) r.after
made_apart other n (Act_call dest) Nothing m k apart r = ap (λ (y : Node). session_at y k) r.after
made_apart other n Give_call (Given number) m k apart r = ap (λ (y : Node). session_at y k) r.after
made_apart other n Give_call (Held number) m k apart r = ap (λ (y : Node). session_at y k) r.after
made_apart other n Give_call Nothing m k apart r = ap (λ (y : Node). session_at y k) r.after
made_apart other n call answer m k apart r = absurd r

refused_apart : (other fulls : ℕ) (n : Node) (call : Call) (m : Node) (k : ℕ) → k ≢ other → Unmade other fulls n call m → session_at m k ≡ session_at n k
refused_apart other fulls n (File_call key offset) m k apart r = ap (λ (y : Node). session_at y k) r.after ∙ (released-moved n other r.session).apart k apart
refused_apart other fulls n (Queue_call files taken answered) m k apart r = ap (λ (y : Node). session_at y k) r.after
refused_apart other fulls n call m k apart e = ap (λ (y : Node). session_at y k) e

notmade_apart : (other : ℕ) (n : Node) (call : Call) (fault : Fault) (m : Node) (k : ℕ) → k ≢ other → NotMade other n call fault m → session_at m k ≡ session_at n k
notmade_apart other n call (Disk count) m k apart (_, inl r) = ap (λ (y : Node). session_at y k) r.1
notmade_apart other n call (Disk count) m k apart (_, inr r) = ap (λ (x : Seat). x.session) (r.others k apart)
notmade_apart other n call (Read count) m k apart r = ap (λ (y : Node). session_at y k) r.3 ∙ ap (λ (x : Seat). x.session) (put_apart other _ n.seats k apart)
notmade_apart other n call Full m k apart r = refused_apart other _ n call m k apart r.2
notmade_apart other n call No_memory m k apart r = refused_apart other _ n call m k apart r.2

pub step_apart : (other : ℕ) (n : Node) (call : Call) (answer : Answer) (m : Node) (k : ℕ) → k ≢ other → NodeStep other n call answer m → session_at m k ≡ session_at n k
step_apart other n call (Refused fault) m k apart r = notmade_apart other n call fault m k apart r
step_apart other n call answer m k apart r = made_apart other n call answer m k apart r.1

pub makes_apart : (seat : ℕ) (n : Node) (es : List Event) (m : Node) → Makes seat n es m → (k : ℕ) → k ≢ seat → session_at m k ≡ session_at n k
makes_apart seat n [] m same k apart = ap (λ (y : Node). session_at y k) same
makes_apart seat n (e ∷ es) m (mid, step, rest) k apart = makes_apart seat mid es m rest k apart ∙ step_apart seat n e.call e.answer mid k apart step
