-- What the gate asks of a hub.
use Rattle.std.proofs.Common.{◌≡◌, ◌<◌, ◌≤◌, ◌-◌, ◌^◌, ℕ, arith, Option, Some, None, [], refl, sym, ap, subst}
use Rattle.node_model.specs.Calls.{counts_of}
use Rattle.node_model.specs.Desks.{PartTold}
use Rattle.node_model.specs.Stores.{Stored, StoreState, StoreStand}
use Rattle.hub_core.specs.Hubs.{Chair, HubState, IsReady, hub_stand, knows_over, seat_part, sitting_part, chair_in}
use Rattle.hub_core.specs.HubCalls.{OwnCall}
use Rattle.hub_core.specs.HubLaws.{seat_tied}
use Rattle.turn_gate.specs.Turns.{IsTurn}
use Rattle.shared_desk.specs.Seen.{Alike, IsOwn, OneHub, SameOwn, SitsAt, Within}
use Rattle.mem_shared.specs.Sights.{sight_by, knows_at, ready_at, part_at}

alike_over : (c : Option Stored) (s : StoreState) (h : HubState) (i k : ℕ) → Alike (knows_over c s h i) (knows_over c s h k)
alike_over None s h i k = refl
alike_over (Some a) s h i k = refl

pub one_hub_by : {X : Type 0} (st : X → StoreStand) (hs : X → HubState) → OneHub (sight_by st hs)
one_hub_by st hs i k None = refl
one_hub_by st hs i k (Some x) = alike_over (st x).state.content (st x).state (hs x) i k

pub sits_by : {X : Type 0} (st : X → StoreStand) (hs : X → HubState) (x : X) (k : ℕ) → IsReady (st x) (hs x) k → SitsAt (sight_by st hs) k (Some x) (hub_stand (st x) (hs x) k) (seat_part (hs x) k)
sits_by st hs x k ready = record { state = refl; moment = refl; to = λ t d i. i; back = λ t d i. i; part_is = refl; ready = ready }

same_own : (c e : Option Stored) (s t : StoreState) (h g : HubState) (i : ℕ) → chair_in g.chairs i ≡ chair_in h.chairs i → SameOwn (knows_over c s h i) (knows_over e t g i)
same_own None None s t h g i same = (ap (λ (c : Chair). c.busy) same, ap (λ (c : Chair). c.reads) same)
same_own None (Some b) s t h g i same = tt
same_own (Some a) e s t h g i same = tt

pub own_by : {X : Type 0} (st : X → StoreStand) (hs : X → HubState) (x y : X) (k j : ℕ) → IsReady (st y) (hs y) j → j ≡ k → OwnCall k (hs x) (st y) (hs y) → IsOwn (sight_by st hs) k (Some x) j (Some y)
own_by st hs x y k j ready stays own = record {
  stays = stays;
  others = record {
    counts = λ i apart. same_own (st x).state.content (st y).state.content (st x).state (st y).state (hs x) (hs y) i (own.others i apart);
    parts = λ i apart. ap (λ (c : Chair). sitting_part c.sitting) (own.others i apart);
    ready = λ i was. record { given = subst (λ (n : ℕ). i < n) (sym own.seats) was.given; fitted = ready.fitted; settled = ready.settled };
  };
}

pub tied_by : {X : Type 0} (st : X → StoreStand) (hs : X → HubState) (k : ℕ) (o : Option X) → ready_at st hs k o → PartTold (part_at st hs k o) k (knows_at st hs k o)
tied_by st hs k None ready = absurd ready
tied_by st hs k (Some x) ready = seat_tied (st x) (hs x) k ready

-- of a value that tells no list and no part every step is a turn
pub turn_of_nothing : {X : Type 0} (k : ℕ) (a b : X) → IsTurn {X = X} {E = Unit {0}} {P = Unit {0}} (λ x. []) (λ e. 0) (λ i x. tt) k a b
turn_of_nothing k a b = record { rest = []; grows = refl; own = λ i d l. absurd (omega arith); others = λ i apart. refl }

-- counts that were read fit 64 bits
pub within_by : {X : Type 0} (st : X → StoreStand) (hs : X → HubState) (x : X) (k : ℕ) → (st x).state.counts.faults ≤ 2 ^ 64 - 1 → (st x).state.counts.fulls ≤ 2 ^ 64 - 1 → Within (counts_of (knows_at st hs k (Some x)))
within_by st hs x k faults fulls = within_over (st x).state.content (st x).state (hs x) k faults fulls
  where
    within_over : (c : Option Stored) (s : StoreState) (h : HubState) (k : ℕ) → s.counts.faults ≤ 2 ^ 64 - 1 → s.counts.fulls ≤ 2 ^ 64 - 1 → Within (counts_of (knows_over c s h k))
    within_over None s h k faults fulls = record { faults = faults; fulls = fulls }
    within_over (Some a) s h k faults fulls = record { faults = faults; fulls = fulls }
