-- A seat more changes nothing of what a hub's sessions do.
use Rattle.std.proofs.Common.{◌≡◌, ℕ, zero, suc, ◌+◌, ◌<◌, ◌≤◌, List, [], ◌∷◌, ◌++◌, Some, map, length, IfOk, OnOk, Result, Ok, Err, refl, sym, ◌∙◌, ap, subst, arith}
use Rattle.node_model.specs.Node.{Seat, Node, empty_seat, seat_in, session_at, hold_in, claim_in}
use Rattle.node_model.specs.Sound.{Sound, SoundSessions, SoundClaims, SoundHolds, SoundParts, SoundPlaces, all_places}
use Rattle.node_model.specs.Stocks.{Stock}
use Rattle.node_model.specs.Stores.{Stored, StoreState, StoreStand}
use Rattle.hub_core.specs.Hubs.{Chair, HubState, empty_chair, chair_in, sitting_at, seat_over, node_with, HubFits, Fitted, IsReady}
use Rattle.hub_core.specs.Opening.{with_seat, IsWhole}

pub chair_still : (chairs : List Chair) (k : ℕ) → chair_in (chairs ++ empty_chair ∷ []) k ≡ chair_in chairs k
chair_still [] zero = refl
chair_still [] (suc k) = refl
chair_still (c ∷ chairs) zero = refl
chair_still (c ∷ chairs) (suc k) = chair_still chairs k

seat_still : (seats : List Seat) (k : ℕ) → seat_in (seats ++ empty_seat ∷ []) k ≡ seat_in seats k
seat_still [] zero = refl
seat_still [] (suc k) = refl
seat_still (x ∷ seats) zero = refl
seat_still (x ∷ seats) (suc k) = seat_still seats k

places_still : (seats : List Seat) → all_places (seats ++ empty_seat ∷ []) ≡ all_places seats
places_still [] = refl
places_still (x ∷ seats) = ap (λ (n : ℕ). Rattle.node_model.specs.Sound.places_of x + n) (places_still seats)

map_more : (stock : Stock) (chairs : List Chair) → map (seat_over stock) (chairs ++ empty_chair ∷ []) ≡ map (seat_over stock) chairs ++ empty_seat ∷ []
map_more stock [] = refl
map_more stock (c ∷ chairs) = ap (λ (seats : List Seat). seat_over stock c ∷ seats) (map_more stock chairs)

-- one empty seat more
abbrev seated : Node → Node
seated n = record n { seats = n.seats ++ empty_seat ∷ [] }

at_still : (n : Node) (k : ℕ) → session_at (seated n) k ≡ session_at n k
at_still n k = ap (λ (s : Seat). s.session) (seat_still n.seats k)

hold_still : (n : Node) (k : ℕ) → hold_in (session_at (seated n) k) ≡ hold_in (session_at n k)
hold_still n k = ap hold_in (at_still n k)

claim_still : (n : Node) (k : ℕ) → claim_in (session_at (seated n) k) ≡ claim_in (session_at n k)
claim_still n k = ap claim_in (at_still n k)

was : {A : Type 0} (a b c : A) → a ≡ b → a ≡ c → b ≡ c
was a b c same is = sym same ∙ is

seated_sound : (n : Node) → Sound n → Sound (seated n)
seated_sound n s = record {
  queue = s.queue;
  inbox = s.inbox;
  sessions = record {
    numbers = λ k x at. s.sessions.numbers k x (was (session_at (seated n) k) (session_at n k) (Some x) (at_still n k) at);
    apart = λ j k x y a b same. s.sessions.apart j k x y (was (session_at (seated n) j) (session_at n j) (Some x) (at_still n j) a) (was (session_at (seated n) k) (session_at n k) (Some y) (at_still n k) b) same;
  };
  claims = record {
    each = λ k number x at is. s.claims.each k number x (was (session_at (seated n) k) (session_at n k) (Some x) (at_still n k) at) is;
    apart = λ j k number a b. s.claims.apart j k number (was (claim_in (session_at (seated n) j)) (claim_in (session_at n j)) (Some number) (claim_still n j) a) (was (claim_in (session_at (seated n) k)) (claim_in (session_at n k)) (Some number) (claim_still n k) b);
  };
  holds = record {
    each = λ k x h at is. let o = s.holds.each k x h (was (session_at (seated n) k) (session_at n k) (Some x) (at_still n k) at) is in record { from_first = o.from_first; new = o.new; wanted = o.wanted; stored = o.stored; begins = o.begins; fits = o.fits };
    apart = λ j k g h a b same. s.holds.apart j k g h (was (hold_in (session_at (seated n) j)) (hold_in (session_at n j)) (Some g) (hold_still n j) a) (was (hold_in (session_at (seated n) k)) (hold_in (session_at n k)) (Some h) (hold_still n k) b) same;
  };
  parts = record {
    marks = s.parts.marks;
    receipts = s.parts.receipts;
    apart = s.parts.apart;
    held_mark = λ k h at. s.parts.held_mark k h (was (hold_in (session_at (seated n) k)) (hold_in (session_at n k)) (Some h) (hold_still n k) at);
    held_receipt = λ k h at. s.parts.held_receipt k h (was (hold_in (session_at (seated n) k)) (hold_in (session_at n k)) (Some h) (hold_still n k) at);
    held_apart = λ j k g h a b same. s.parts.held_apart j k g h (was (hold_in (session_at (seated n) j)) (hold_in (session_at n j)) (Some g) (hold_still n j) a) (was (hold_in (session_at (seated n) k)) (hold_in (session_at n k)) (Some h) (hold_still n k) b) same;
    marks_drawn = s.parts.marks_drawn;
    receipts_drawn = s.parts.receipts_drawn;
    holds_drawn = λ k h at. s.parts.holds_drawn k h (was (hold_in (session_at (seated n) k)) (hold_in (session_at n k)) (Some h) (hold_still n k) at);
    queue_staged = s.parts.queue_staged;
    drawn_few = s.parts.drawn_few;
  };
  places = record {
    claims = λ k number x at is. s.places.claims k number x (was (session_at (seated n) k) (session_at n k) (Some x) (at_still n k) at) is;
    holds = λ k x h at is. s.places.holds k x h (was (session_at (seated n) k) (session_at n k) (Some x) (at_still n k) at) is;
    all = subst (λ (p : ℕ). p ≤ n.reserved) (sym (places_still n.seats)) s.places.all;
    room = s.places.room;
  };
}

seated_is : (a : Stored) (s : StoreState) (h : HubState) → node_with a s (with_seat h) ≡ seated (node_with a s h)
seated_is a s h = ap (λ (seats : List Seat). record (node_with a s h) { seats = seats }) (map_more a.stock h.chairs)

sitting_still : (h : HubState) (k : ℕ) → sitting_at (with_seat h) k ≡ sitting_at h k
sitting_still h k = ap (λ (c : Chair). c.sitting) (chair_still h.chairs k)

fits_more : (a : Stored) (s : StoreState) (h : HubState) → HubFits a s h → HubFits a s (with_seat h)
fits_more a s h f = record {
  stock = f.stock;
  sittings = λ k x at. f.sittings k x (sym (sitting_still h k) ∙ at);
  parts = f.parts;
  sound = subst Sound (sym (seated_is a s h)) (seated_sound (node_with a s h) f.sound);
}

pub fitted_more : (s : StoreState) (h : HubState) → Fitted s h → Fitted s (with_seat h)
fitted_more s h f = record { keeps = f.keeps; tells = f.tells; fits = fits_more f.keeps s h f.fits }

last_given : (chairs : List Chair) → length chairs < length (chairs ++ empty_chair ∷ [])
last_given [] = omega arith
last_given (c ∷ chairs) = let h = last_given chairs in omega (arith, h)

-- the seat that is given is ready
pub new_ready : (w : StoreStand) (h : HubState) → IsWhole w h → IsReady w (with_seat h) (length h.chairs)
new_ready w h whole = record { given = last_given h.chairs; fitted = λ unbroken. fitted_more w.state h (whole.fitted unbroken); settled = whole.settled }

pub given_ready : {E : Type 0} (result : Result ℕ E) (w : StoreStand) (h h' : HubState) → IfOk result (λ seat. seat ≡ length h.chairs) → OnOk result (h' ≡ with_seat h) → IfOk result (λ seat. IsWhole w h → IsReady w h' seat)
given_ready (Ok seat) w h h' number after =
    λ whole. subst (λ (g : HubState). IsReady w g seat) (sym after) (subst (λ (k : ℕ). IsReady w (with_seat h) k) (sym number) (new_ready w h whole))
given_ready (Err e) w h h' number after = tt
