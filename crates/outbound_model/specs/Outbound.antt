-- What taking in an outbound sees of what a stop leaves of a node (own).
use Rattle.std.specs.Prelude.{◌≡◌, ◌≢◌, ℕ, ◌==◌, Bool, List, Option}
use Rattle.node_model.specs.Items.{Entry}
use Rattle.node_model.specs.Lists.{some_passes}
use Rattle.node_model.specs.Outside.{OutFiles}
use Rattle.node_model.specs.StoreStates.{Shelf}

-- the queue, the take numbers that are recorded, the bytes of the takes that stand by their own names, and the files of other
-- programs by their paths
pub record Outbound : Type 0 where
  pub queue : List Entry
  pub recorded : List ℕ
  pub takes : List ℕ → Option (List ℕ)
  pub outside : OutFiles

-- that of what a store keeps over a stop
abbrev pub outbound_of : Shelf → Outbound
outbound_of s = record { queue = s.state.queue; recorded = s.recorded; takes = s.takes; outside = s.outside }

abbrev pub is_recorded : ℕ → Outbound → Bool
is_recorded number s = some_passes (λ k. k == number) s.recorded

-- one name has this now, and every other what it had
pub record Puts {X : Type 0} (name : List ℕ) (file : Option X) (old new : List ℕ → Option X) : Type 0 where
  pub here : new name ≡ file
  pub others : (other : List ℕ) → other ≢ name → new other ≡ old other
