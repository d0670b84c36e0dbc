-- Leaving a desk marks what is held, so that the next session goes on from there (own).
use Rattle.std.specs.Prelude.{◌≡◌, ℕ, Bool, List, Some}
use Rattle.node_model.specs.Durable.{marked}
use Rattle.node_model.specs.Node.{Hold, Node, hold_in, session_at}
use Rattle.node_model.specs.Sound.{Sound}
use Rattle.node_model.specs.Calls.{Leave_call, Settled, Knows, Tells, Counts_alone, DeskState, Turned}
use Rattle.session_run.specs.Settled.{Asked}

-- the file that the seat holds at the one node has a mark at the other, with all the bytes that came of it
abbrev pub IsMarked : ℕ → (old new : Node) → Type 0
IsMarked seat old new = (hold : Hold) → hold_in (session_at old seat) ≡ Some hold → marked hold.from hold.key new.state ≡ hold.bytes

-- the same of two nodes that a desk tells
abbrev pub IsMarkedTold : ℕ → (old new : Knows) → Type 0
IsMarkedTold seat (Tells old) (Tells new) = IsMarked seat old new
IsMarkedTold seat old new = ⊥

-- the desk tells its node, which is sound
abbrev pub TellsSound : Knows → Type 0
TellsSound (Tells n) = Sound n
TellsSound (Counts_alone c) = ⊥

-- Of a desk that tells a sound node as these calls begin: each leave among them that was answered Settled marked what was
-- held.
abbrev pub LeavesMarked : (alone : Bool) (desk : DeskState) (es : List Turned) → Type 0
LeavesMarked alone desk es =
    TellsSound desk.knows → (left : Asked alone desk es Leave_call Settled) → IsMarkedTold left.asks.seat left.beside.rows.asks left.beside.rows.answers
