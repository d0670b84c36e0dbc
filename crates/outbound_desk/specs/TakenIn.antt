-- What the calls of a take-in are to the node of a hub whose sessions look anew for what they offer: rows of the seat whose turn it is,
-- and what a stop leaves of them (own).
use Rattle.std.specs.Prelude.{◌≡◌, ℕ, ◌≤◌, ◌<◌, List, Option, Some, None}
use Rattle.ftn_addr.specs.Moments.{MomentsGrew}
use Rattle.ftn_addr.specs.declared.limits.TheConstants.{MAX_NUMBER}
use Rattle.node_model.specs.Calls.{Event, Beside, AllMade, AllTakeIn, EndsRefused, Fault, Disk, Full, No_memory}
use Rattle.node_model.specs.Images.{BesidePass}
use Rattle.node_model.specs.Lists.{Each}
use Rattle.node_model.specs.Stocks.{StagedOf}
use Rattle.node_model.specs.Stores.{Shelf, StoreState, StoreStand, OpensShelf}
use Rattle.hub_core.specs.Anew.{LooksAnew}
use Rattle.hub_core.specs.Hubs.{HubState, Fitted, IsSettled, knows_over}
use Rattle.take_steps.specs.Steps.{Stepped}
use Rattle.take_steps.specs.declared.wanting.Wanting.{Wanting}
use Rattle.take_steps.specs.declared.wanting.Wanting.TheVariants.{Places, Memory}

-- the numbers of the staged files were drawn, and of numbers there are so many
pub record AreDrawn (s : StoreState) : Type 0 where
  pub staged : Each (λ (x : StagedOf ℕ). x.number ≤ s.staged) s.stock.staged
  pub few : s.staged ≤ MAX_NUMBER

-- a want, as the fault of a desk
abbrev pub fault_for : Wanting → Fault
fault_for Places = Full
fault_for Memory = No_memory

-- how these rows end: all were made; or the last was refused, for what is wanted, or as the disk failed
abbrev pub EndsSo : List Event → (broken : Option ℕ) → Option Wanting → Type 0
EndsSo es (Some count) now = EndsRefused es (Disk count)
EndsSo es None None = AllMade es
EndsSo es None (Some want) = EndsRefused es (fault_for want)

-- From old to new a take-in called the store of a hub, and what is wanted now is told: its calls are rows of the seat whose turn
-- it is, and every image since is a state that these rows pass. Unless the disk failed, the store fits the hub as before.
pub record TakenIn (h : HubState) (seat : ℕ) (old new : StoreStand) (now : Option Wanting) : Type 0 where
  pub events : List Event
  pub takes_in : AllTakeIn events
  pub rows : Beside seat (knows_over old.state.content old.state h seat) events (knows_over new.state.content new.state h seat)
  pub ends : EndsSo events new.state.counts.broken now
  pub moments : MomentsGrew old.moment old.images new.moment new.images
  pub since : (k : ℕ) (d : Option Shelf) → old.moment < k → k ≤ new.moment → new.images k d
      → OpensShelf (λ x. BesidePass seat (knows_over old.state.content old.state h seat) events (knows_over new.state.content new.state h seat) rows x.state) d
  pub settled : new.state.counts.broken ≡ None → IsSettled new
  pub fitted : new.state.counts.broken ≡ None → Fitted new.state h
  pub drawn : new.state.counts.broken ≡ None → AreDrawn new.state
  pub turn : new.state.seat ≡ seat

-- A step of a take-in, before which nothing was wanted, is so for every hub that fits the store and whose sessions look anew.
abbrev pub TakeInsAreRows : StoreStand → StoreStand → Type 0
TakeInsAreRows old new =
    (h : HubState) (seat : ℕ) (now : Option Wanting)
    → LooksAnew h → old.state.seat ≡ seat → Fitted old.state h → AreDrawn old.state → Stepped old None new now → TakenIn h seat old new now
