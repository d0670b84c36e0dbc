-- What each node of a world does by itself: it lives, and what it queued or settled stays (own).
use Rattle.std.specs.Prelude.{◌≡◌, ◌⊎◌, List, [], ◌∷◌}
use Rattle.node_model.specs.Items.{Entry, Done}
use Rattle.node_model.specs.Node.{Node, blank}
use Rattle.node_model.specs.Sound.{IsSound}
use Rattle.node_model.specs.Receipts.{HasOnce, SettledStays}
use Rattle.node_model.specs.Lives.{Happening, Lives}

-- the same entry; it may have been settled and acted on since
pub record SameEntry (e f : Entry) : Type 0 where
  pub number : f.number ≡ e.number
  pub dest : f.dest ≡ e.dest
  pub key : f.key ≡ e.key
  pub body : (f.body ≡ e.body) ⊎ (f.body ≡ Done)

-- each entry stands where it stood, and further ones stand behind
abbrev pub QueueStays : List Entry → List Entry → Type 0
QueueStays [] new = Unit {0}
QueueStays (e ∷ es) [] = ⊥
QueueStays (e ∷ es) (f ∷ fs) = SameEntry e f × QueueStays es fs

-- the node came to be by a life of its own: steps of its seats, and stops
abbrev pub HasLived : Node → Type 0
HasLived n = (events : List Happening) × Lives blank events n

-- it is sound, unless its store is broken, and has no two receipts of one sender and key
pub record StaysSound (n : Node) : Type 0 where
  pub sound : IsSound n
  pub once : HasOnce n.state

-- what was queued, received or refused at a node stays so
pub record KeepsAll (old new : Node) : Type 0 where
  pub queue : QueueStays old.state.queue new.state.queue
  pub settled : SettledStays old.state new.state
