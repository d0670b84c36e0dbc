-- Leave, and what every file begins with: what is held is marked, and its places go back.
use Rattle.std.proofs.Common.{◌≡◌, ◌≢◌, ℕ, zero, suc, ◌+◌, ◌≤◌, Bool, true, false, if◌then◌else◌, List, [], ◌∷◌, Option, Some, None, length, refl, sym, ap, ◌∙◌, subst, inl, inr, arith}
use Rattle.ftn_addr.specs.Address.{Address}
use Rattle.node_model.specs.Items.{Entry}
use Rattle.node_model.specs.Durable.{Durable, with_mark}
use Rattle.node_model.specs.Node.{Hold, Session, Seat, Settings, Node, peers, seat_in, put_seat, session_at}
use Rattle.node_model.specs.Rows.{by, mark_for, mark_record, is_ahead, mark_any, marks_any, unheld, released, left_by, LeaveRow}
use Rattle.node_model.specs.Sound.{places_in, places_of, all_places}
use Rattle.node_model.proofs.Lists.{Each-weaker}
use Rattle.node_model.proofs.StoreChanges.{IsOwnNumber, Numbered, store_mark}
use Rattle.node_model.proofs.HoldChanges.{beside, seat_marked}
use Rattle.node_model.proofs.Seats.{NumbersAgree, ClaimFits, HoldSound, HoldFits, HoldsApart, SeatFits, PairFits, StoreFits, SeatsFit, NodeFits, seats_put}

-- the sum of a seat's number over the seats, after one of them changed
pub sum_put : (k : ℕ) (v : Seat) (seats : List Seat) → all_places (put_seat k v seats) + places_of (seat_in seats k) ≡ all_places seats + places_of v
sum_put zero v [] = omega arith
sum_put zero v (x ∷ xs) = omega arith
sum_put (suc k) v [] = let h = sum_put k v [] in omega (arith, h)
sum_put (suc k) v (x ∷ xs) = let h = sum_put k v xs in omega (arith, h)

pub places_put : (n : Node) (seat : ℕ) (was new : Option Session) → session_at n seat ≡ was → all_places (put_seat seat (record (seat_in n.seats seat) { session = new }) n.seats) + places_in was ≡ all_places n.seats + places_in new
places_put n seat was new has =
    ap (λ o. all_places (put_seat seat (record (seat_in n.seats seat) { session = new }) n.seats) + places_in o) (sym has) ∙ sum_put seat (record (seat_in n.seats seat) { session = new }) n.seats

pub numbered_hold : (settings : Settings) (d : Durable) (drawn : ℕ) (first : Address) (places : ℕ) (h : Hold) → HoldSound settings d drawn first places h → Numbered d drawn h.from h.key h.number
numbered_hold settings d drawn first places h o = record { new = o.new; marks = Each-weaker (NumbersAgree h.from h.key h.number) (IsOwnNumber h.from h.key h.number) (λ x a. a.0) d.marks o.marks; receipts = o.receipts; some = o.some; was_drawn = o.was_drawn }

-- The mark of what a session holds.

pub store_marked : (settings : Settings) (o : Option Hold) (d : Durable) (staged drawn : ℕ) (first : Address) (places : ℕ) → HoldFits settings d drawn first places o → StoreFits d staged drawn → StoreFits (mark_any o d) staged drawn
store_marked settings None d staged drawn first places held f = f
store_marked settings (Some h) d staged drawn first places held f = go (is_ahead h d)
  where
    go : (b : Bool) → StoreFits (if b then with_mark (mark_for h) d else d) staged drawn
    go true = store_mark (mark_for h) d staged drawn (numbered_hold settings d drawn first places h held) held.fits f
    go false = f

beside_marked : (begun : ℕ) (settings : Settings) (o : Option Hold) (d : Durable) (drawn : ℕ) (s : Session) → HoldsApart o s.hold → SeatFits begun settings d drawn s → SeatFits begun settings (mark_any o d) drawn s
beside_marked begun settings None d drawn s apart f = f
beside_marked begun settings (Some h) d drawn s apart f = go (is_ahead h d)
  where
    go : (b : Bool) → SeatFits begun settings (if b then with_mark (mark_for h) d else d) drawn s
    go true = seat_marked (mark_for h) begun settings d drawn s (beside h s.hold apart) f
    go false = f

-- it uses a place at most
pub few_marks : (seat : ℕ) (settings : Settings) (o : Option Hold) (d : Durable) (drawn : ℕ) (first : Address) (places : ℕ) → HoldFits settings d drawn first places o → length (marks_any seat o d) ≤ places
few_marks seat settings None d drawn first places held = omega arith
few_marks seat settings (Some h) d drawn first places held = go (is_ahead h d)
  where
    go : (b : Bool) → length (if b then by seat (mark_record h) else []) ≤ places
    go true = let a = held.places_left in omega (arith, a)
    go false = omega arith

queue_marked : (o : Option Hold) (d : Durable) → (mark_any o d).queue ≡ d.queue
queue_marked None d = refl
queue_marked (Some h) d = go (is_ahead h d)
  where
    go : (b : Bool) → (if b then with_mark (mark_for h) d else d).queue ≡ d.queue
    go true = refl
    go false = refl

-- A session's hold ends.

-- what the session without its hold keeps
pub unheld_fits : (begun : ℕ) (settings : Settings) (d e : Durable) (drawn drawn' : ℕ) (s : Session) → e.queue ≡ d.queue → SeatFits begun settings d drawn s → SeatFits begun settings e drawn' (unheld s)
unheld_fits begun settings d e drawn drawn' s same f =
    record { some = f.some; begins = f.begins; claim = subst (λ (q : List Entry). ClaimFits q (peers s) s.claim_places s.claim) (sym same) f.claim; hold = tt }

no_hold : (o : Option Hold) → HoldsApart None o
no_hold o = tt

-- it stays apart from all others
pub unheld_apart : (n : Node) (seat : ℕ) (s : Session) → session_at n seat ≡ Some s → SeatsFit n → (k : ℕ) (w : Session) → k ≢ seat → session_at n k ≡ Some w → PairFits (unheld s) w
unheld_apart n seat s has f k w apart at =
    let p = f.pairs seat k s w (λ same. apart (sym same)) has at in
    record { numbers = p.numbers; claims = p.claims; holds = no_hold w.hold }

pub released_fits : (n : Node) (seat : ℕ) (s : Session) → session_at n seat ≡ Some s → NodeFits n → NodeFits (released seat s n)
released_fits n seat s has f =
    let mine = f.seats.each seat s has in
    let sum = places_put n seat (Some s) (Some (unheld s)) has in
    let few = few_marks seat n.settings s.hold n.state n.drawn s.first s.hold_places mine.hold in
    let all = f.all in
    let room = f.room in
    record {
      store = store_marked n.settings s.hold n.state n.staged n.drawn s.first s.hold_places mine.hold f.store;
      seats = seats_put n (released seat s n) seat (Some (unheld s)) refl
          (λ k w apart at o. beside_marked n.begun n.settings s.hold n.state n.drawn w (f.seats.pairs seat k s w (λ same. apart (sym same)) has at).holds o)
          (unheld_fits n.begun n.settings n.state (mark_any s.hold n.state) n.drawn n.drawn s (queue_marked s.hold n.state) mine, unheld_apart n seat s has f.seats)
          f.seats;
      all = omega (arith, sum, all);
      room = omega (arith, sum, all, few, room);
    }

left_fits : (n : Node) (seat : ℕ) (s : Session) → session_at n seat ≡ Some s → NodeFits n → NodeFits (left_by seat s n)
left_fits n seat s has f =
    let mine = f.seats.each seat s has in
    let sum = places_put n seat (Some s) None has in
    let few = few_marks seat n.settings s.hold n.state n.drawn s.first s.hold_places mine.hold in
    let all = f.all in
    let room = f.room in
    record {
      store = store_marked n.settings s.hold n.state n.staged n.drawn s.first s.hold_places mine.hold f.store;
      seats = seats_put n (left_by seat s n) seat None refl
          (λ k w apart at o. beside_marked n.begun n.settings s.hold n.state n.drawn w (f.seats.pairs seat k s w (λ same. apart (sym same)) has at).holds o)
          tt
          f.seats;
      all = omega (arith, sum, all);
      room = omega (arith, sum, all, few, room);
    }

pub leave-fits : (n m : Node) (seat : ℕ) → LeaveRow seat n m → NodeFits n → NodeFits m
leave-fits n m seat (inl row) f = subst NodeFits (sym row.after) (left_fits n seat row.session row.has f)
leave-fits n m seat (inr same) f = subst NodeFits (sym same.1) f
