-- What a give call is at the node of a store that tells what it keeps: the node's own step, which is an event of the world of two
-- nodes (own).
use Rattle.std.specs.Prelude.{◌≡◌, ℕ, List, Some, None}
use Rattle.hub_core.specs.Hubs.{HubState, node_with}
use Rattle.node_model.specs.Calls as C
use Rattle.node_model.specs.Calls.{Answer, Give_call, NodeStep}
use Rattle.node_model.specs.Stores.{Stored, StoreState, StoreDoes, StoreTied, Give_next, Gave_so}
use Rattle.node_model.specs.declared.store.Gave.{Gave}
use Rattle.node_model.specs.declared.store.Gave.TheVariants.{Given, Held, Nothing}

-- a store's answer, as the node's
abbrev pub answer_of : Gave → Answer
answer_of (Given number) = C.Given number
answer_of (Held number) = C.Held number
answer_of Nothing = C.Nothing

-- Whatever a give call answers that isn't refused, it is that step of the node of any hub over the store.
abbrev pub GivesAreSteps : Type 0
GivesAreSteps =
    (seat : ℕ) (hub : HubState) (inbound nonsecure : List ℕ) (old new : StoreState) (kept left : Stored) (gave : Gave)
    → StoreTied old → old.counts.broken ≡ None → old.content ≡ Some kept → new.content ≡ Some left → StoreDoes old (Give_next inbound nonsecure) (Gave_so gave) new
    → NodeStep seat (node_with kept old hub) Give_call (answer_of gave) (node_with left new hub)
