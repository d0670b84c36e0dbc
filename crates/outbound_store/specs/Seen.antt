-- A store as a take-in sees it, by its takes in memory and the take number that was drawn (own).
use Rattle.std.specs.Prelude.{◌≡◌, ℕ, nat_lt, Bool, List, Option, None, option_map, count_by, if◌then◌else◌}
use Rattle.std.specs.List.{list_all}
use Rattle.node_model.specs.Items.{EntryOf}
use Rattle.node_model.specs.SendRows.{waits_for_action}
use Rattle.node_model.specs.Stocks.{Sizes, StagedOf, staged_in}
use Rattle.node_model.specs.StoreStates.{Shelf, Stored, StoreState, StoreStand, shelf_of}
use Rattle.outbound_model.specs.Outbound.{Outbound, outbound_of}
use Rattle.outbound_take.specs.Stand.{Content, Left, Memory, TakeStand}

-- what is staged under a number
abbrev pub staged_at : {B : Type 0} → List (StagedOf B) → ℕ → Option B
staged_at {B} staged number = option_map (λ (x : StagedOf B). x.content) (staged_in number staged)

-- every number of a queued file is below that one
abbrev pub is_behind : {B : Type 0} → List (EntryOf B) → ℕ → Bool
is_behind {B} queue number = list_all (λ (e : EntryOf B). nat_lt e.number number) queue

-- the size of what is staged under a number, where that may still be queued
abbrev pub size_at : Sizes → ℕ → Option ℕ
size_at stock number = if is_behind stock.state.queue number then staged_at stock.staged number else None

abbrev pub content_of : Stored → Content
content_of s = record { outbound = outbound_of (shelf_of s); bodies = staged_at s.stock.staged }

-- of what a stop leaves the outbound
abbrev pub images_of : (ℕ → Option Shelf → Type 0) → ℕ → Option Outbound → Type 0
images_of images k d = (shelf : Option Shelf) × images k shelf × (d ≡ option_map outbound_of shelf)

abbrev pub memory_of : StoreState → List Left → Option ℕ → Memory
memory_of s takes number =
    record { left = takes; drawn = number; sizes = size_at s.stock; last = s.staged; undone = count_by waits_for_action s.stock.state.queue; broken = s.counts.broken }

abbrev pub seen : StoreStand → List Left → Option ℕ → TakeStand
seen s takes number =
    record { content = option_map content_of s.state.content; memory = memory_of s.state takes number; moment = s.moment; images = images_of s.images }
