-- What a gate, and the desk of a seat behind it, ask of the hub.
use Rattle.std.proofs.Common.{◌≡◌, ◌⊎◌, ◌<◌, ◌≤◌, ◌-◌, ◌^◌, ℕ, List, [], ◌∷◌, ◌++◌, All, Option, Some, None, length, option_map, refl, sym, ◌∙◌, ap, subst, inl, inr, arith}
use Rattle.std.proofs.lemmas.List.{length-map, map-append}
use Rattle.std.proofs.lemmas.List.Elements.{All-nil, All-cons}
use Rattle.ftn_addr.specs.Address.{Address}
use Rattle.node_model.specs.Calls.{Counts_alone, Knows, Logs, SeatCounts, Tells, counts_of}
use Rattle.node_model.specs.Desks.{PartTold}
use Rattle.node_model.specs.Lists.{Each}
use Rattle.node_model.specs.Node.{Logged}
use Rattle.node_model.specs.Stocks.{sizes}
use Rattle.node_model.specs.Stores.{IfTold, Stored, StoreStand, StoreState, StoreTied}
use Rattle.hub_core.specs.Anew.{chair_anew, from_start}
use Rattle.hub_core.specs.Hubs.{Chair, HubState, Sitting, chair_in, hub_stand, knows_over, seat_part, sitting_part}
use Rattle.hub_core.specs.HubLaws.{seat_tied}
use Rattle.turn_gate.specs.Turns.{IsTurn}
use Rattle.shared_desk.specs.Records.{LogsOn}
use Rattle.shared_desk.specs.Seen.{Alike, IsOwn, OneHub, SameOwn, SeatTurn, Sight, SitsAt, Within}
use Rattle.shared_desk.proofs.Counting.{Untold, onward_none, untold_turns}
use Rattle.shared_desk.proofs.OwnRows.{turn_logs}
use Rattle.outbound_desk.specs.Lines.{IsDeskReady, OwnTurn}
use Rattle.outbound_desk.specs.Roaming.{count_at, knows_at, part_at, ready_at, seats_at, seats_in, seats_stored, sight_by}

alike_over : (c : Option Stored) (s : StoreState) (h : HubState) (i k : ℕ) → Alike (knows_over c s h i) (knows_over c s h k)
alike_over None s h i k = refl
alike_over (Some a) s h i k = refl

-- Another seat's session may look anew for what it offers: what it counts and its part are the same.

same_own : (c e : Option Stored) (s t : StoreState) (h g : HubState) (i : ℕ) → chair_anew (chair_in g.chairs i) ≡ chair_anew (chair_in h.chairs i) → SameOwn (knows_over c s h i) (knows_over e t g i)
same_own None None s t h g i same = (ap (λ (c : Chair). c.busy) same, ap (λ (c : Chair). c.reads) same)
same_own None (Some b) s t h g i same = tt
same_own (Some a) e s t h g i same = tt

part_anew : (o : Option Sitting) → sitting_part (option_map from_start o) ≡ sitting_part o
part_anew None = refl
part_anew (Some x) = refl

same_part : (c d : Chair) → chair_anew d ≡ chair_anew c → sitting_part d.sitting ≡ sitting_part c.sitting
same_part c d same = sym (part_anew d.sitting) ∙ (ap (λ (x : Chair). sitting_part x.sitting) same ∙ part_anew c.sitting)

-- counts that were read fit 64 bits
within_over : (c : Option Stored) (s : StoreState) (h : HubState) (k : ℕ) → s.counts.faults ≤ 2 ^ 64 - 1 → s.counts.fulls ≤ 2 ^ 64 - 1 → Within (counts_of (knows_over c s h k))
within_over None s h k faults fulls = record { faults = faults; fulls = fulls }
within_over (Some a) s h k faults fulls = record { faults = faults; fulls = fulls }

module _ {X : Type 0} (st : X → StoreStand) (hs : X → HubState) (home : X → Address) where
  pub one_hub_by : OneHub (sight_by st hs home)
  one_hub_by i k None = refl
  one_hub_by i k (Some x) = alike_over (st x).state.content (st x).state (hs x) i k

  pub sits_by : (x : X) (k : ℕ) → IsDeskReady (st x) (hs x) k (home x) → SitsAt (sight_by st hs home) k (Some x) (hub_stand (st x) (hs x) k) (seat_part (hs x) k)
  sits_by x k ready = record { state = refl; moment = refl; to = λ t d i. i; back = λ t d i. i; part_is = refl; ready = ready }

  pub own_by : (x y : X) (k j : ℕ) → IsDeskReady (st y) (hs y) j (home y) → j ≡ k → OwnTurn k (hs x) (st y) (hs y) → IsOwn (sight_by st hs home) k (Some x) j (Some y)
  own_by x y k j ready stays own = record {
    stays = stays;
    others = record {
      counts = λ i apart. same_own (st x).state.content (st y).state.content (st x).state (st y).state (hs x) (hs y) i (own.others i apart);
      parts = λ i apart. same_part (chair_in (hs x).chairs i) (chair_in (hs y).chairs i) (own.others i apart);
      ready = λ i was. record { ready = record { given = subst (λ (n : ℕ). i < n) (sym own.seats) was.ready.given; fitted = ready.ready.fitted; settled = ready.ready.settled }; home_within = ready.home_within };
    };
  }

  pub tied_by : (k : ℕ) (o : Option X) → ready_at st hs home k o → PartTold (part_at st hs home k o) k (knows_at st hs home k o)
  tied_by k None ready = absurd ready
  tied_by k (Some x) ready = seat_tied (st x) (hs x) k ready.ready

  pub within_by : (x : X) (k : ℕ) → (st x).state.counts.faults ≤ 2 ^ 64 - 1 → (st x).state.counts.fulls ≤ 2 ^ 64 - 1 → Within (counts_of (knows_at st hs home k (Some x)))
  within_by x k faults fulls = within_over (st x).state.content (st x).state (hs x) k faults fulls

-- The records are told whole, or not at all.

told_over : (c : Option Stored) (s : StoreState) → IfTold c (λ a. (s.stock ≡ sizes a.stock) × (s.recorded ≡ a.recorded) × (s.appended ≡ length a.log)) → (length (seats_stored c) ≡ s.appended) ⊎ (seats_stored c ≡ [])
told_over None s tied = inr refl
told_over (Some a) s tied = inl (length-map a.log (λ (r : Logged). r.seat) ∙ sym tied.2)

-- Records of a turn are its seat's.

abbrev seats_known : Knows → List ℕ
seats_known (Tells n) = seats_in n.log
seats_known (Counts_alone c) = []

record SeatsOn (seat : ℕ) (old new : List ℕ) : Type 0 where
  rest : List ℕ
  grows : new ≡ old ++ rest
  own : All (λ (k : ℕ). k ≡ seat) rest

own_seats : (seat : ℕ) (rs : List Logged) → Each (λ (r : Logged). r.seat ≡ seat) rs → All (λ (k : ℕ). k ≡ seat) (seats_in rs)
own_seats seat [] own = All-nil (λ (k : ℕ). k ≡ seat)
own_seats seat (r ∷ rs) own = All-cons (λ (k : ℕ). k ≡ seat) r.seat (seats_in rs) own.0 (own_seats seat rs own.1)

seats_grow : (seat : ℕ) (old new : List Logged) → Logs seat old new → SeatsOn seat (seats_in old) (seats_in new)
seats_grow seat old new logs = record {
  rest = seats_in logs.rest;
  grows = ap seats_in logs.grows ∙ map-append (λ (r : Logged). r.seat) old logs.rest;
  own = own_seats seat logs.rest logs.own;
}

known_on : (seat : ℕ) (x y : Knows) → LogsOn seat x y → ((c : SeatCounts) → x ≡ Counts_alone c → Untold c.store y) → SeatsOn seat (seats_known x) (seats_known y)
known_on seat (Tells a) (Tells b) logs untold = seats_grow seat a.log b.log logs
known_on seat (Tells a) (Counts_alone d) logs untold = absurd logs
known_on seat (Counts_alone c) (Tells b) logs untold = absurd (untold c refl)
known_on seat (Counts_alone c) (Counts_alone d) logs untold = record { rest = []; grows = refl; own = λ i d l. absurd (omega arith) }

-- a seat that tells no node still doesn't behind its turn
still_untold : {X : Type 0} (s : Sight X) (k : ℕ) (a b : X) → SeatTurn s k a b → (c : SeatCounts) → s.knows k a ≡ Counts_alone c → Untold c.store (s.knows k b)
still_untold s k a b turn c is =
    subst (Untold c.store) (sym turn.ran.tail.drift) (untold_turns c.store (record { seat = k; knows = s.knows k a }) turn.events turn.ran.last (subst (Untold c.store) (sym is) (onward_none c.store)) turn.ran.chain)

turn_seats : {X : Type 0} (s : Sight X) (k : ℕ) (a b : X) → SeatTurn s k a b → SeatsOn k (seats_known (s.knows k a)) (seats_known (s.knows k b))
turn_seats s k a b turn = known_on k (s.knows k a) (s.knows k b) (turn_logs s k a b turn) (still_untold s k a b turn)

over_known : (c : Option Stored) (s : StoreState) (h : HubState) (k : ℕ) → seats_known (knows_over c s h k) ≡ seats_stored c
over_known None s h k = refl
over_known (Some a) s h k = refl

module _ {X : Type 0} (st : X → StoreStand) (hs : X → HubState) (home : X → Address) where
  pub told_by : ((x : X) → StoreTied (st x).state) → (o : Option X) → (length (seats_at st hs home o) ≡ count_at st hs home o) ⊎ (seats_at st hs home o ≡ [])
  told_by tied None = inl refl
  told_by tied (Some x) = told_over (st x).state.content (st x).state (tied x).sizes

  seats_are : (k : ℕ) (o : Option X) → seats_known (knows_at st hs home k o) ≡ seats_at st hs home o
  seats_are k None = refl
  seats_are k (Some x) = over_known (st x).state.content (st x).state (hs x) k

  pub turn_by : (k : ℕ) (a b : Option X) → SeatTurn (sight_by st hs home) k a b → IsTurn {P = Unit {0}} (seats_at st hs home) (λ e. e) (λ i x. tt) k a b
  turn_by k a b turn =
      let on = turn_seats (sight_by st hs home) k a b turn in
      record {
        rest = on.rest;
        grows = sym (seats_are k b) ∙ (on.grows ∙ ap (λ (l : List ℕ). l ++ on.rest) (seats_are k a));
        own = on.own;
        others = λ i apart. refl;
      }
