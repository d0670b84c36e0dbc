-- Rows that change neither the queue nor a claim.
use Rattle.std.proofs.Common.{if◌then◌else◌, ◌≡◌, ◌≢◌, ℕ, Bool, true, false, List, Option, Some, None, refl, sym, ap, ◌∙◌}
use Rattle.ftn_addr.specs.Key.{Key}
use Rattle.node_model.specs.Durable.{Durable, with_mark}
use Rattle.node_model.specs.Node.{seat_in, Hold, Session, Seat, Node, session_at, claim_in}
use Rattle.node_model.specs.Rows.{FileAnswer, Have, Refuse, Elsewhere, Go, Whole, From, Late, FileRow, DataMore, DataWhole, mark_any, mark_for, is_ahead, at_stride, marked_at_stride, released, unheld, grown}
use Rattle.world_pair.proofs.Seen.{Answered}
use Rattle.node_model.proofs.Lists.{some_inj}
use Rattle.node_model.proofs.Moves.{Moved, moved, released-moved, more-moved, whole-moved}
use Rattle.world_pair.specs.Offers.{skipped_in}

-- a row that changes neither the queue nor the claim
pub record Quiet (n m : Node) (seat : ℕ) : Type 0 where
  pub queue : m.state.queue ≡ n.state.queue
  pub claim : claim_in (session_at m seat) ≡ claim_in (session_at n seat)
  pub skipped : skipped_in (session_at m seat) ≡ skipped_in (session_at n seat)
  pub peers : (s : Session) → session_at m seat ≡ Some s → (was : Session) × (session_at n seat ≡ Some was) × (s.first ≡ was.first) × (s.others ≡ was.others)
  pub apart : (k : ℕ) → k ≢ seat → session_at m k ≡ session_at n k

pub quiet_same : (n m : Node) (seat : ℕ) → m ≡ n → Quiet n m seat
quiet_same n m seat e =
    record {
      queue = ap (λ (x : Node). x.state.queue) e;
      claim = ap (λ (x : Node). claim_in (session_at x seat)) e;
      skipped = ap (λ (x : Node). skipped_in (session_at x seat)) e;
      peers = λ s has. (s, ap (λ (x : Node). session_at x seat) (sym e) ∙ has, refl, refl);
      apart = λ k _. ap (λ (x : Node). session_at x k) e;
    }

pub quiet_moved : (n m : Node) (seat : ℕ) (was s : Session) (d : Durable) → session_at n seat ≡ Some was → Moved n m seat (Some s) d → d.queue ≡ n.state.queue → s.claim ≡ was.claim → s.skipped ≡ was.skipped → s.first ≡ was.first → s.others ≡ was.others → Quiet n m seat
quiet_moved n m seat was s d has moved queue claim skipped first others =
    record {
      queue = ap (λ (x : Durable). x.queue) moved.state_is ∙ queue;
      claim = ap claim_in moved.here ∙ (claim ∙ ap claim_in (sym has));
      skipped = ap skipped_in moved.here ∙ (skipped ∙ ap skipped_in (sym has));
      peers = λ t there. let same : t ≡ s = some_inj (sym there ∙ moved.here) in (was, has, ap (λ (x : Session). x.first) same ∙ first, ap (λ (x : Session). x.others) same ∙ others);
      apart = moved.apart;
    }

-- a row that leaves the queue, whatever it does to the claim
pub quiet_but_claim : (n m : Node) (seat : ℕ) (was s : Session) (d : Durable) → session_at n seat ≡ Some was → Moved n m seat (Some s) d → d.queue ≡ n.state.queue → s.first ≡ was.first → s.others ≡ was.others → (m.state.queue ≡ n.state.queue) × ((t : Session) → session_at m seat ≡ Some t → (w : Session) × (session_at n seat ≡ Some w) × (t.first ≡ w.first) × (t.others ≡ w.others))
quiet_but_claim n m seat was s d has moved queue first others = (
  ap (λ (x : Durable). x.queue) moved.state_is ∙ queue,
  λ t there. let same : t ≡ s = some_inj (sym there ∙ moved.here) in (was, has, ap (λ (x : Session). x.first) same ∙ first, ap (λ (x : Session). x.others) same ∙ others),
)

pub quiet_seats : (n m : Node) (seat : ℕ) → m.state.queue ≡ n.state.queue → m.seats ≡ n.seats → Quiet n m seat
quiet_seats n m seat queue seats =
    record {
      queue = queue;
      claim = ap (λ (f : List Seat). claim_in (seat_in f seat).session) seats;
      skipped = ap (λ (f : List Seat). skipped_in (seat_in f seat).session) seats;
      peers = λ s has. (s, ap (λ (f : List Seat). (seat_in f seat).session) (sym seats) ∙ has, refl, refl);
      apart = λ k _. ap (λ (f : List Seat). (seat_in f k).session) seats;
    }

pub quiet_twice : (n x m : Node) (seat : ℕ) → Quiet n x seat → Quiet x m seat → Quiet n m seat
quiet_twice n x m seat a b =
    record {
      queue = b.queue ∙ a.queue;
      claim = b.claim ∙ a.claim;
      skipped = b.skipped ∙ a.skipped;
      peers = λ s has. let v = b.peers s has in let w = a.peers v.0 v.1 in (w.0, w.1, v.2 ∙ w.2, v.3 ∙ w.3);
      apart = λ k other. b.apart k other ∙ a.apart k other;
    }

pub queue_of_mark_any : (o : Option Hold) (d : Durable) → (mark_any o d).queue ≡ d.queue
queue_of_mark_any None d = refl
queue_of_mark_any (Some h) d = go (is_ahead h d)
  where
    go : (b : Bool) → (if b then with_mark (mark_for h) d else d).queue ≡ d.queue
    go true = refl
    go false = refl

pub queue_at_stride : (h : Hold) (d : Durable) → (marked_at_stride h d).queue ≡ d.queue
queue_at_stride h d = go (at_stride h d)
  where
    go : (b : Bool) → (if b then with_mark (mark_for h) d else d).queue ≡ d.queue
    go true = refl
    go false = refl

pub quiet_released : (n : Node) (seat : ℕ) (s : Session) → session_at n seat ≡ Some s → Quiet n (released seat s n) seat
quiet_released n seat s has = quiet_moved n (released seat s n) seat s (unheld s) (mark_any s.hold n.state) has (released-moved n seat s) (queue_of_mark_any s.hold n.state) refl refl refl refl

pub quiet_answered : (n m : Node) (seat : ℕ) (s : Session) (key : Key) (offset : ℕ) (answer : FileAnswer) → session_at n seat ≡ Some s → Answered seat s key offset answer n m → Quiet n m seat
quiet_answered n m seat s key offset Have has a = quiet_same n m seat a.1
quiet_answered n m seat s key offset Refuse has a = quiet_seats n m seat (ap (λ (x : Node). x.state.queue) a.1) (ap (λ (x : Node). x.seats) a.1)
quiet_answered n m seat s key offset Elsewhere has a = quiet_same n m seat a.1
quiet_answered n m seat s key offset Go has a =
    quiet_moved n m seat s _ n.state has (moved n m seat _ n.state (ap (λ (x : Node). x.state) a.1.2) (ap (λ (x : Node). x.settings) a.1.2) (ap (λ (x : Node). x.broken) a.1.2) (ap (λ (x : Node). x.seats) a.1.2)) refl refl refl refl refl
quiet_answered n m seat s key offset Whole has a = quiet_seats n m seat (ap (λ (x : Node). x.state.queue) a.1.2) (ap (λ (x : Node). x.seats) a.1.2)
quiet_answered n m seat s key offset (From place) has a =
    quiet_moved n m seat s _ n.state has (moved n m seat _ n.state (ap (λ (x : Node). x.state) a.1.2) (ap (λ (x : Node). x.settings) a.1.2) (ap (λ (x : Node). x.broken) a.1.2) (ap (λ (x : Node). x.seats) a.1.2)) refl refl refl refl refl
quiet_answered n m seat s key offset Late has a = quiet_same n m seat a.1

pub quiet_file : (n m : Node) (seat : ℕ) (key : Key) (offset : ℕ) (answer : FileAnswer) → FileRow seat key offset answer n m → Quiet n m seat
quiet_file n m seat key offset answer row = quiet_twice n (released seat row.session n) m seat (quiet_released n seat row.session row.has) (quiet_answered (released seat row.session n) m seat (unheld row.session) key offset answer (released-moved n seat row.session).here (row.applies, row.made))

pub quiet_more : (n m : Node) (seat : ℕ) (bytes : List ℕ) → DataMore seat bytes n m → Quiet n m seat
quiet_more n m seat bytes row = quiet_moved n m seat row.session _ _ row.has (more-moved n m seat bytes row) (queue_at_stride (grown row.hold bytes) n.state) refl refl refl refl

pub quiet_whole : (n m : Node) (seat : ℕ) (bytes : List ℕ) → DataWhole seat bytes n m → Quiet n m seat
quiet_whole n m seat bytes row = quiet_moved n m seat row.session _ _ row.has (whole-moved n m seat bytes row) refl refl refl refl refl
