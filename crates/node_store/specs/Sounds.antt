-- That a store keeps what a sound node without seats keeps (own).
use Rattle.std.specs.Prelude.{◌≡◌, ℕ, List, [], length, Some}
use Rattle.node_model.specs.Node.{Settings, Node}
use Rattle.node_model.specs.Sound.{Sound}
use Rattle.node_model.specs.Stocks.{sizes}
use Rattle.node_model.specs.StoreStates.{Stored, StoreState, IfTold}
use Rattle.node_store.specs.Contents.{Contents}

-- each content has as many bytes as it is asked for
pub record AreAsLong (c : Contents (List ℕ)) : Type 0 where
  pub queued : (number size : ℕ) → length (c.queued number size) ≡ size
  pub received : (number size : ℕ) (bytes : List ℕ) → c.received number size ≡ Some bytes → length bytes ≡ size
  pub front : (number len : ℕ) → length (c.front number len) ≡ len

-- the node over a store that keeps this, before a seat is given
abbrev pub seatless : Settings → Stored → StoreState → Node
seatless settings a s =
    record { state = a.stock.state; log = a.log; seats = []; settings = settings; begun = 0; records = s.records; reserved = s.reserved; staged = s.staged; drawn = s.drawn; faults = s.counts.faults; fulls = s.counts.fulls; broken = s.counts.broken; last_given = s.last_given }

-- What a store keeps, where it tells that, else something that it may keep, has the sizes that it tells; and that node is sound.
pub record KeepsSound (settings : Settings) (s : StoreState) : Type 0 where
  pub keeps : Stored
  pub tells : IfTold s.content (λ b. b ≡ keeps)
  pub stock : s.stock ≡ sizes keeps.stock
  pub sound : Sound (seatless settings keeps s)
