-- What a row does to a node, as its reader sees it: the new state, one seat's session, and the others as before.
use Rattle.std.proofs.Common.{zero, suc, ◌≡◌, ◌≢◌, ℕ, ◌+◌, ◌-◌, Bool, true, false, if◌then◌else◌, List, [], ◌∷◌, ◌++◌, Option, Some, None, refl, ap, ◌∙◌}
use Rattle.ftn_addr.specs.Address.{Address}
use Rattle.node_model.specs.declared.words.Role.{Role}
use Rattle.node_model.specs.Items.{Entry}
use Rattle.node_model.specs.Durable.{Durable, with_mark, with_done, with_receipt}
use Rattle.node_model.specs.Node.{Hold, seat_in, put_seat, Session, Seat, Node, session_at}
use Rattle.node_model.specs.Rows.{LeaveOpen, OpenRow, DataMore, DataWhole, new_session, mark_for, is_ahead, mark_any, at_stride, grown, stride_place, marked_at_stride, unheld, receipt_of, released}
use Rattle.node_model.specs.SendRows.{OfferFile, GotRow, SkipRow, unclaimed}

pub record Moved (n m : Node) (seat : ℕ) (session : Option Session) (state : Durable) : Type 0 where
  pub state_is : m.state ≡ state
  pub settings : m.settings ≡ n.settings
  pub broken : m.broken ≡ n.broken
  pub here : session_at m seat ≡ session
  pub apart : (k : ℕ) → k ≢ seat → session_at m k ≡ session_at n k

pub put_at : (k : ℕ) (v : Seat) (seats : List Seat) → seat_in (put_seat k v seats) k ≡ v
put_at zero v [] = refl
put_at zero v (x ∷ xs) = refl
put_at (suc k) v [] = put_at k v []
put_at (suc k) v (x ∷ xs) = put_at k v xs

pub put_apart : (k : ℕ) (v : Seat) (seats : List Seat) (j : ℕ) → j ≢ k → seat_in (put_seat k v seats) j ≡ seat_in seats j
put_apart zero v [] zero other = absurd (other refl)
put_apart zero v [] (suc j) other = refl
put_apart zero v (x ∷ xs) zero other = absurd (other refl)
put_apart zero v (x ∷ xs) (suc j) other = refl
put_apart (suc k) v [] zero other = refl
put_apart (suc k) v [] (suc j) other = put_apart k v [] j (λ e. other (ap suc e))
put_apart (suc k) v (x ∷ xs) zero other = refl
put_apart (suc k) v (x ∷ xs) (suc j) other = put_apart k v xs j (λ e. other (ap suc e))

-- any node with these seats
pub moved : (n m : Node) (seat : ℕ) (session : Option Session) (state : Durable) → m.state ≡ state → m.settings ≡ n.settings → m.broken ≡ n.broken → m.seats ≡ put_seat seat (record (seat_in n.seats seat) { session = session }) n.seats → Moved n m seat session state
moved n m seat session state a b d c =
    record {
      state_is = a;
      settings = b;
      broken = d;
      here = ap (λ (f : List Seat). (seat_in f seat).session) c ∙ ap (λ (x : Seat). x.session) (put_at seat (record (seat_in n.seats seat) { session = session }) n.seats);
      apart = λ k other. ap (λ (f : List Seat). (seat_in f k).session) c ∙ ap (λ (x : Seat). x.session) (put_apart seat (record (seat_in n.seats seat) { session = session }) n.seats k other);
    }

pub unmoved : (n m : Node) (seat : ℕ) → m ≡ n → Moved n m seat (session_at n seat) n.state
unmoved n m seat e =
    record { state_is = ap (λ (x : Node). x.state) e; settings = ap (λ (x : Node). x.settings) e; broken = ap (λ (x : Node). x.broken) e; here = ap (λ (x : Node). session_at x seat) e; apart = λ k _. ap (λ (x : Node). session_at x k) e }

pub moved_twice : (n x m : Node) (seat : ℕ) (s s' : Option Session) (d d' : Durable) → Moved n x seat s d → Moved x m seat s' d' → Moved n m seat s' d'
moved_twice n x m seat s s' d d' a b =
    record { state_is = b.state_is; settings = b.settings ∙ a.settings; broken = b.broken ∙ a.broken; here = b.here; apart = λ k other. b.apart k other ∙ a.apart k other }

pub offer-moved : (n m : Node) (seat : ℕ) (e : Entry) (r : OfferFile seat e n m) → Moved n m seat (Some (record (r.session) { claim = Some e.number; claim_places = 1 })) n.state
offer-moved n m seat e r = moved n m seat _ _ (ap (λ (x : Node). x.state) r.after) (ap (λ (x : Node). x.settings) r.after) (ap (λ (x : Node). x.broken) r.after) (ap (λ (x : Node). x.seats) r.after)

pub got-moved : (n m : Node) (seat number : ℕ) (r : GotRow seat number n m) → Moved n m seat (Some (unclaimed r.session)) (with_done number n.state)
got-moved n m seat number r = moved n m seat _ _ (ap (λ (x : Node). x.state) r.after) (ap (λ (x : Node). x.settings) r.after) (ap (λ (x : Node). x.broken) r.after) (ap (λ (x : Node). x.seats) r.after)

pub skip-moved : (n m : Node) (seat number : ℕ) (r : SkipRow seat number n m) → Moved n m seat (Some (record (unclaimed r.session) { skipped = number ∷ r.session.skipped })) n.state
skip-moved n m seat number r = moved n m seat _ _ (ap (λ (x : Node). x.state) r.after) (ap (λ (x : Node). x.settings) r.after) (ap (λ (x : Node). x.broken) r.after) (ap (λ (x : Node). x.seats) r.after)

pub leave-moved : (n m : Node) (seat : ℕ) (r : LeaveOpen seat n m) → Moved n m seat None (mark_any r.session.hold n.state)
leave-moved n m seat r = moved n m seat _ _ (ap (λ (x : Node). x.state) r.after) (ap (λ (x : Node). x.settings) r.after) (ap (λ (x : Node). x.broken) r.after) (ap (λ (x : Node). x.seats) r.after)

pub open-moved : (n m : Node) (seat : ℕ) (role : Role) (peers : List Address) (secure : Bool) (moment : ℕ) (r : OpenRow seat role peers secure moment n m) → Moved n m seat (Some (new_session (n.begun + 1) role r.first r.others secure moment)) n.state
open-moved n m seat role peers secure moment r = moved n m seat _ _ (ap (λ (x : Node). x.state) r.after) (ap (λ (x : Node). x.settings) r.after) (ap (λ (x : Node). x.broken) r.after) (ap (λ (x : Node). x.seats) r.after)

pub more-moved : (n m : Node) (seat : ℕ) (bytes : List ℕ) (r : DataMore seat bytes n m) → Moved n m seat (Some (record (r.session) { hold = Some (grown r.hold bytes); hold_places = r.session.hold_places - stride_place (grown r.hold bytes) n.state })) (marked_at_stride (grown r.hold bytes) n.state)
more-moved n m seat bytes r = moved n m seat _ _ (ap (λ (x : Node). x.state) r.after) (ap (λ (x : Node). x.settings) r.after) (ap (λ (x : Node). x.broken) r.after) (ap (λ (x : Node). x.seats) r.after)

pub whole-moved : (n m : Node) (seat : ℕ) (bytes : List ℕ) (r : DataWhole seat bytes n m) → Moved n m seat (Some (unheld r.session)) (with_receipt (receipt_of r.hold.number r.session r.hold.key (r.hold.bytes ++ bytes)) n.state)
whole-moved n m seat bytes r = moved n m seat _ _ (ap (λ (x : Node). x.state) r.after) (ap (λ (x : Node). x.settings) r.after) (ap (λ (x : Node). x.broken) r.after) (ap (λ (x : Node). x.seats) r.after)

pub released-moved : (n : Node) (seat : ℕ) (s : Session) → Moved n (released seat s n) seat (Some (unheld s)) (mark_any s.hold n.state)
released-moved n seat s = moved n (released seat s n) seat _ _ refl refl refl refl

-- marks change nothing else

pub inbox_of_mark_any : (o : Option Hold) (d : Durable) → (mark_any o d).inbox ≡ d.inbox
inbox_of_mark_any None d = refl
inbox_of_mark_any (Some h) d = go (is_ahead h d)
  where
    go : (b : Bool) → (if b then with_mark (mark_for h) d else d).inbox ≡ d.inbox
    go true = refl
    go false = refl

pub inbox_at_stride : (h : Hold) (d : Durable) → (marked_at_stride h d).inbox ≡ d.inbox
inbox_at_stride h d = go (at_stride h d)
  where
    go : (b : Bool) → (if b then with_mark (mark_for h) d else d).inbox ≡ d.inbox
    go true = refl
    go false = refl

pub refused_of_mark_any : (o : Option Hold) (d : Durable) → (mark_any o d).refused ≡ d.refused
refused_of_mark_any None d = refl
refused_of_mark_any (Some h) d = go (is_ahead h d)
  where
    go : (b : Bool) → (if b then with_mark (mark_for h) d else d).refused ≡ d.refused
    go true = refl
    go false = refl

pub refused_at_stride : (h : Hold) (d : Durable) → (marked_at_stride h d).refused ≡ d.refused
refused_at_stride h d = go (at_stride h d)
  where
    go : (b : Bool) → (if b then with_mark (mark_for h) d else d).refused ≡ d.refused
    go true = refl
    go false = refl
