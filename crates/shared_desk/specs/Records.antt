-- Whose records a turn adds to the log, and whose session they name (own).
use Rattle.std.specs.Prelude.{◌≡◌, ℕ, List, ◌++◌, Option, Some, None}
use Rattle.node_model.specs.Calls.{Counts_alone, Knows, Logs, Tells}
use Rattle.node_model.specs.Lists.{Each}
use Rattle.node_model.specs.Node.{Acted_record, Answered_record, Done_record, Logged, Mark_record, Node, Queue_record, Received_record, Record, Refused_record, Session, Taken_record, session_at}

-- a node that is told goes on to be told, and its log went on with records of that seat alone
abbrev pub LogsOn : ℕ → Knows → Knows → Type 0
LogsOn seat (Tells a) (Tells b) = Logs seat a.log b.log
LogsOn seat (Tells a) (Counts_alone c) = ⊥
LogsOn seat (Counts_alone c) y = Unit {0}

-- the session that a record names
abbrev pub session_named : Record → Option ℕ
session_named (Done_record number session) = Some session
session_named (Received_record receipt from key session secure) = Some session
session_named (Refused_record from key session reason) = Some session
session_named (Queue_record number dest key flavour source action) = None
session_named (Mark_record part from key size) = None
session_named (Taken_record take) = None
session_named (Acted_record number) = None
session_named (Answered_record receipt) = None

-- the seat has a session of that number open
pub record IsOpenAt (seat : ℕ) (old : Node) (number : ℕ) : Type 0 where
  pub session : Session
  pub has : session_at old seat ≡ Some session
  pub numbered : session.number ≡ number

-- the record is this seat's, and names no session but the one that the seat has open
pub record IsOwnRecord (seat : ℕ) (old : Node) (r : Logged) : Type 0 where
  pub by_seat : r.seat ≡ seat
  pub names : (number : ℕ) → session_named r.entry ≡ Some number → IsOpenAt seat old number

-- the log goes on with such records
pub record OwnLog (seat : ℕ) (old : Node) (log new : List Logged) : Type 0 where
  pub rest : List Logged
  pub grows : new ≡ log ++ rest
  pub own : Each (IsOwnRecord seat old) rest
