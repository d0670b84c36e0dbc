-- A hub as it is opened over its store, and its seats as they are given (own).
use Rattle.std.specs.Prelude.{◌≡◌, ℕ, [], ◌∷◌, ◌++◌, None}
use Rattle.ftn_addr.specs.Address.{Address}
use Rattle.node_model.specs.Node.{Settings}
use Rattle.node_model.specs.Stores.{StoreStand}
use Rattle.hub_core.specs.Hubs.{Sitting, HubState, empty_chair, Fitted, IsSettled}

-- no seat was given yet
abbrev pub no_seats : Settings → HubState
no_seats settings = record { chairs = []; settings = settings; begun = 0 }

-- one seat more
abbrev pub with_seat : HubState → HubState
with_seat h = record h { chairs = h.chairs ++ empty_chair ∷ [] }

-- The hub fits its store, and each image now is what the store keeps; or the store is to be opened again.
pub record IsWhole (w : StoreStand) (h : HubState) : Type 0 where
  pub fitted : w.state.counts.broken ≡ None → Fitted w.state h
  pub settled : w.state.counts.broken ≡ None → IsSettled w

-- the peer's first address and the moment of a session
abbrev pub shown : Sitting → Address × ℕ
shown x = (x.first, x.moment)
