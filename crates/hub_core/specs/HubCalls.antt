-- A call of a hub's desk, before it is told as a step of the node (own).
use Rattle.std.specs.Prelude.{◌≡◌, ◌≢◌, ℕ, Option, Some, None, length}
use Rattle.node_model.specs.Calls.{Call, Answer, Caused, KnownStep, Passes}
use Rattle.node_model.specs.Desks.{part_after}
use Rattle.node_model.specs.Images.{Settles}
use Rattle.node_model.specs.Stores.{Shelf, Stored, StoreState, StoreStand}
use Rattle.hub_core.specs.Hubs.{HubState, IsReady, IsSettled, chair_in, knows_over, node_with, seat_part}
use Rattle.hub_core.specs.Steps.{Leaves}

-- one of the states that a call passes, where the store tells them
abbrev pub ShelfPasses : Option Stored → StoreState → HubState → ℕ → Call → Shelf → Type 0
ShelfPasses None s h seat call e = ⊥
ShelfPasses (Some a) s h seat call e = Passes seat (node_with a s h) call e.state

-- a ready desk, whose turn it is at a store that isn't broken
pub record HasTurn (v : StoreStand) (h : HubState) (seat : ℕ) : Type 0 where
  pub ready : IsReady v h seat
  pub seat_is : v.state.seat ≡ seat
  pub whole : v.state.counts.broken ≡ None

-- A call of a seat is its own: the hub's settings and its other seats are as before, and the records that the store makes
-- next are this seat's.
pub record OwnCall (seat : ℕ) (h : HubState) (w : StoreStand) (g : HubState) : Type 0 where
  pub settings : g.settings ≡ h.settings
  pub seats : length g.chairs ≡ length h.chairs
  pub others : (k : ℕ) → k ≢ seat → chair_in g.chairs k ≡ chair_in h.chairs k
  pub turn : w.state.seat ≡ seat

-- what the call of a desk is told by: the counts, the step where the store tells, what a stop may leave, its part, and that
-- it is its seat's own
pub record Does (v : StoreStand) (h : HubState) (seat : ℕ) (call : Call) (answer : Answer) (w : StoreStand) (g : HubState) : Type 0 where
  pub caused : Caused v.state.counts call answer w.state.counts
  pub step : KnownStep seat (knows_over v.state.content v.state h seat) call answer (knows_over w.state.content w.state g seat)
  pub leaves : Leaves (ShelfPasses v.state.content v.state h seat call) v w
  pub settled : Settles answer → w.state.counts.broken ≡ None → IsSettled w
  pub part : seat_part g seat ≡ part_after (seat_part h seat) call answer
  pub ready : IsReady w g seat
  pub own : OwnCall seat h w g
