-- A store that fits a new hub.
use Rattle.node_model.specs.Node.{Settings}
use Rattle.mem_store.specs.ListStates.{ListState, stand_of}
use Rattle.hub_core.specs.Opening.{IsWhole, no_seats}

-- with any settings
abbrev pub FitsHub : ListState → Type 0
FitsHub s = (settings : Settings) → IsWhole (stand_of s) (no_seats settings)

-- what fitted a hub before a call fits it behind it
abbrev pub StaysFit : ListState → ListState → Type 0
StaysFit old new = FitsHub old → FitsHub new
