-- A hub that many seats share, as each of them sees it, and a turn of one of them (own).
use Rattle.std.specs.Prelude.{◌≡◌, ◌≢◌, ℕ, ◌-◌, ◌^◌, ◌≤◌, true, false, List, Option}
use Rattle.node_model.specs.Calls.{Call, Answer, Counts, Counts_alone, Knows, Tells, Turned, counts_of}
use Rattle.node_model.specs.Desks.{DeskPart, part_after}
use Rattle.node_model.specs.Durable.{Durable}
use Rattle.node_model.specs.Images.{Kept, RanAt, Shared, Stand}

-- what two seats see of one hub: one node where they tell it, else the counts of one store
abbrev pub Alike : Knows → Knows → Type 0
Alike (Tells m) (Tells n) = m ≡ n
Alike (Counts_alone c) (Counts_alone d) = c.store ≡ d.store
Alike (Tells m) (Counts_alone d) = ⊥
Alike (Counts_alone c) (Tells n) = ⊥

-- what a seat counts itself is as before
abbrev pub SameOwn : Knows → Knows → Type 0
SameOwn (Counts_alone c) (Counts_alone d) = (d.busy ≡ c.busy) × (d.reads ≡ c.reads)
SameOwn x y = Unit {0}

-- the counts of a store fit 64 bits
pub record Within (c : Counts) : Type 0 where
  pub faults : c.faults ≤ 2 ^ 64 - 1
  pub fulls : c.fulls ≤ 2 ^ 64 - 1

-- How seats see a hub in each state of X: what a seat knows, the moment, what a stop at each moment may have left, a seat's
-- part, and whether it is ready: the hub fits its store, and the seat is one of the hub's.
pub record Sight (X : Type 0) : Type 1 where
  pub knows : ℕ → X → Knows
  pub moment : X → ℕ
  pub images : X → ℕ → Option Durable → Type 0
  pub part : ℕ → X → DeskPart
  pub ready : ℕ → X → Type 0

-- where a seat stands
abbrev pub stand : {X : Type 0} → Sight X → ℕ → X → Stand
stand s k x = record { state = record { seat = k; knows = s.knows k x }; moment = s.moment x; images = s.images x }

-- all seats see one hub
abbrev pub OneHub : {X : Type 0} → Sight X → Type 0
OneHub {X} s = (i k : ℕ) (x : X) → Alike (s.knows i x) (s.knows k x)

-- what a seat does leaves the others be: what each of them counts and holds is as before, and each that was ready still is
pub record LeavesOthers {X : Type 0} (s : Sight X) (k : ℕ) (a b : X) : Type 0 where
  pub counts : (i : ℕ) → i ≢ k → SameOwn (s.knows i a) (s.knows i b)
  pub parts : (i : ℕ) → i ≢ k → s.part i b ≡ s.part i a
  pub ready : (i : ℕ) → s.ready i a → s.ready i b

-- A turn of a seat: calls of that seat alone, with what a stop may leave of them. The counts of the store fit 64 bits where it
-- begins, and it leaves the others be.
pub record SeatTurn {X : Type 0} (s : Sight X) (k : ℕ) (a b : X) : Type 0 where
  pub events : List Turned
  pub ran : RanAt true (stand s k a) events (stand s k b)
  pub within : Within (counts_of (s.knows k a))
  pub others : LeavesOthers s k a b

-- What a seat finds behind turns of others: they are steps of others to it, its part is as it left it, and it is still ready.
pub record Found {X : Type 0} (s : Sight X) (k : ℕ) (a b : X) : Type 0 where
  pub shared : Shared false (stand s k a) (stand s k b)
  pub part : s.part k b ≡ s.part k a
  pub ready : s.ready k a → s.ready k b

-- a desk that stands so and has that part sits at the seat k of a hub in that state, and is ready there
pub record SitsAt {X : Type 0} (s : Sight X) (k : ℕ) (x : X) (at : Stand) (part : DeskPart) : Type 0 where
  pub state : at.state ≡ record { seat = k; knows = s.knows k x }
  pub moment : at.moment ≡ s.moment x
  pub to : (t : ℕ) (d : Option Durable) → at.images t d → s.images x t d
  pub back : (t : ℕ) (d : Option Durable) → s.images x t d → at.images t d
  pub part_is : part ≡ s.part k x
  pub ready : s.ready k x

-- a call of a desk at the seat k is that seat's own: the desk stays there, and the others are left be
pub record IsOwn {X : Type 0} (s : Sight X) (k : ℕ) (a : X) (j : ℕ) (b : X) : Type 0 where
  pub stays : j ≡ k
  pub others : LeavesOthers s k a b

-- One call of a seat that left the hub in a state and finds it in another, by turns of others: it is one turn from there, and
-- to the seat a call of a desk that isn't alone.
pub record CallBehind {X : Type 0} (s : Sight X) (k : ℕ) (left a b : X) (call : Call) (answer : Answer) : Type 0 where
  pub turn : SeatTurn s k a b
  pub made : Kept false (stand s k left) call answer (stand s k b)
  pub part : s.part k b ≡ part_after (s.part k left) call answer
  pub ready : s.ready k b
