-- How the seats of a hub over a store see it, as the state of a gate: of no hub a blank node, at which no seat is ready (own).
use Rattle.std.specs.Prelude.{ℕ, Option, Some, None}
use Rattle.node_model.specs.Durable.{Durable}
use Rattle.node_model.specs.Node.{blank}
use Rattle.node_model.specs.Calls.{Knows, Tells}
use Rattle.node_model.specs.Desks.{DeskPart}
use Rattle.node_model.specs.Stores.{StoreStand}
use Rattle.hub_core.specs.Hubs.{HubState, IsReady, knows_over, seat_part, seen, sitting_part}
use Rattle.shared_desk.specs.Seen.{Sight}

module _ {X : Type 0} (st : X → StoreStand) (hs : X → HubState) where
  abbrev pub knows_at : ℕ → Option X → Knows
  knows_at k None = Tells blank
  knows_at k (Some x) = knows_over (st x).state.content (st x).state (hs x) k

  abbrev pub moment_at : Option X → ℕ
  moment_at None = 0
  moment_at (Some x) = (st x).moment

  abbrev pub images_at : Option X → ℕ → Option Durable → Type 0
  images_at None k d = ⊥
  images_at (Some x) k d = seen (st x).images k d

  abbrev pub part_at : ℕ → Option X → DeskPart
  part_at k None = sitting_part None
  part_at k (Some x) = seat_part (hs x) k

  abbrev pub ready_at : ℕ → Option X → Type 0
  ready_at k None = ⊥
  ready_at k (Some x) = IsReady (st x) (hs x) k

  abbrev pub sight_by : Sight (Option X)
  sight_by = record { knows = knows_at; moment = moment_at; images = images_at; part = part_at; ready = ready_at }
