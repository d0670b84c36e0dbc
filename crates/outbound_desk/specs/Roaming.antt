-- How the seats of a hub see it while it stands behind a gate, with the outbound that is taken in at it: of no hub a blank node, at
-- which no seat is ready (own).
use Rattle.std.specs.Prelude.{ℕ, Bool, List, [], Option, Some, None, map}
use Rattle.disk_model.specs.World.{World}
use Rattle.ftn_addr.specs.Address.{Address, address}
use Rattle.node_model.specs.Durable.{Durable}
use Rattle.node_model.specs.Node.{Logged, blank}
use Rattle.node_model.specs.Calls.{Knows, Tells}
use Rattle.node_model.specs.Desks.{DeskPart}
use Rattle.node_model.specs.Stores.{Stored, StoreStand}
use Rattle.node_model.specs.declared.store.Store.{Ghosts}
use Rattle.node_store.specs.Stored.{stand_of}
use Rattle.hub_core.specs.Hubs.{HubState, hub_state, knows_over, seat_part, seen, sitting_part}
use Rattle.hub_core.specs.declared.hub.Hub.{Hub}
use Rattle.outbound_store.specs.declared.taking_store.TakingStore.{TakingStore}
use Rattle.shared_desk.specs.Seen.{Sight}
use Rattle.outbound_desk.specs.Lines.{IsDeskReady}
use Rattle.outbound_desk.specs.declared.desk.DeskOutbound.{DeskOutbound}

-- the seat of each record, in order
abbrev pub seats_in : List Logged → List ℕ
seats_in log = map (λ (r : Logged). r.seat) log

-- where the store tells its log
abbrev pub seats_stored : Option Stored → List ℕ
seats_stored None = []
seats_stored (Some a) = seats_in a.log

-- over anything that has a store, a hub and a home
module _ {X : Type 0} (st : X → StoreStand) (hs : X → HubState) (home : X → Address) where
  abbrev pub knows_at : ℕ → Option X → Knows
  knows_at k None = Tells blank
  knows_at k (Some x) = knows_over (st x).state.content (st x).state (hs x) k

  abbrev pub moment_at : Option X → ℕ
  moment_at None = 0
  moment_at (Some x) = (st x).moment

  abbrev pub images_at : Option X → ℕ → Option Durable → Type 0
  images_at None k d = ⊥
  images_at (Some x) k d = seen (st x).images k d

  abbrev pub part_at : ℕ → Option X → DeskPart
  part_at k None = sitting_part None
  part_at k (Some x) = seat_part (hs x) k

  abbrev pub ready_at : ℕ → Option X → Type 0
  ready_at k None = ⊥
  ready_at k (Some x) = IsDeskReady (st x) (hs x) k (home x)

  abbrev pub sight_by : Sight (Option X)
  sight_by = record { knows = knows_at; moment = moment_at; images = images_at; part = part_at; ready = ready_at }

  -- the seat of each record that was made since the store was opened, where it tells them
  abbrev pub seats_at : Option X → List ℕ
  seats_at None = []
  seats_at (Some x) = seats_stored (st x).state.content

  -- how many records were made since the store was opened
  abbrev pub count_at : Option X → ℕ
  count_at None = 0
  count_at (Some x) = (st x).state.appended

-- what is behind the gate: the hub, and the outbound
abbrev pub Behind : (D : Type 0) → Ghosts (TakingStore D) → Type 0
Behind D g = Hub (TakingStore D) g × DeskOutbound

module _ {D : Type 0} {g : Ghosts (TakingStore D)} where
  abbrev pub hub_behind : Behind D g → HubState
  hub_behind x = hub_state x.0.seats

  abbrev pub home_behind : Behind D g → Address
  home_behind x = address x.1.home

module _ {D : Type 0} (tells : Bool) (content : D → World) (faults : D → ℕ) (moment : D → ℕ) (images : D → ℕ → World → Type 0) {g : Ghosts (TakingStore D)} where
  abbrev pub store_behind : Behind D g → StoreStand
  store_behind x = stand_of tells content faults moment images x.0.store.store

  -- how the seats see the hub behind the gate
  abbrev pub line_sight : Sight (Option (Behind D g))
  line_sight = sight_by store_behind hub_behind home_behind

  abbrev pub record_seats : Option (Behind D g) → List ℕ
  record_seats = seats_at store_behind hub_behind home_behind

  abbrev pub record_count : Option (Behind D g) → ℕ
  record_count = count_at store_behind hub_behind home_behind
