-- A worked life: a caller sends a file of three bytes, is gone after two of them, calls again after a stop, and sends
-- the third (own).
use Rattle.std.specs.Prelude.{true, false, List, [], ◌∷◌, Some}
use Rattle.ftn_addr.specs.Address.{Address}
use Rattle.ftn_addr.specs.Key.{Key}
use Rattle.node_model.specs.declared.words.Role.TheVariants.{Answers}
use Rattle.node_model.specs.Items.{Receipt}
use Rattle.node_model.specs.Durable.{Durable}
use Rattle.node_model.specs.Node.{Opening, plain_settings}
use Rattle.node_model.specs.Rows.{Go, From}
use Rattle.node_model.specs.Calls.{Open_call, File_call, Data_call, Leave_call, Begun, Filed, More, Whole_now, Settled}
use Rattle.node_model.specs.Lives.{Happening, Steps, Stops}

-- 2:5030/1024@fidonet
abbrev pub sender : Address
sender = record { zone = 2; net = 5030; node = 1024; point = 0; domain = 102 ∷ 105 ∷ 100 ∷ 111 ∷ 110 ∷ 101 ∷ 116 ∷ [] }

-- a.b, 3 bytes
abbrev pub file : Key
file = record { name = 97 ∷ 46 ∷ 98 ∷ []; size = 3; time = 1000000000 }

-- the ledger holds one record, that of the mark
abbrev pub opened_again : Opening
opened_again = record { settings = plain_settings; faults = 0; fulls = 0; records = 1; staged = 0; drawn = 1 }

abbrev pub worked_receiving : List Happening
worked_receiving =
    Steps 0 (Open_call Answers (sender ∷ []) true 0) (Begun 1)
    ∷ Steps 0 (File_call file 0) (Filed Go)
    ∷ Steps 0 (Data_call (1 ∷ 2 ∷ [])) More
    ∷ Steps 0 Leave_call Settled
    ∷ Stops opened_again
    ∷ Steps 0 (Open_call Answers (sender ∷ []) true 0) (Begun 1)
    ∷ Steps 0 (File_call file 0) (Filed (From 2))
    ∷ Steps 0 (File_call file 2) (Filed Go)
    ∷ Steps 0 (Data_call (3 ∷ [])) Whole_now
    ∷ Steps 0 Leave_call Settled
    ∷ []

abbrev pub received_file : Receipt
received_file =
    record { number = 1; from = sender; key = file; bytes = Some (1 ∷ 2 ∷ 3 ∷ []); secure = true; answered = false; given = false }

-- the file is received whole, and nothing else is kept
abbrev pub received_state : Durable
received_state = record { queue = []; inbox = received_file ∷ []; refused = []; marks = [] }
