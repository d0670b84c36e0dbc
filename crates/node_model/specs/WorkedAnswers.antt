-- A worked life of a node with two callers at once, which gives every answer to a file; at its end the disk fails, and
-- the node stops (own).
use Rattle.std.specs.Prelude.{true, false, List, [], ◌∷◌, Some}
use Rattle.ftn_addr.specs.Key.{Key}
use Rattle.node_model.specs.declared.words.Role.TheVariants.{Answers}
use Rattle.node_model.specs.Items.{Receipt}
use Rattle.node_model.specs.Durable.{Durable}
use Rattle.node_model.specs.Node.{Settings, Opening}
use Rattle.node_model.specs.Rows.{Have, Refuse, Elsewhere, Go, Whole, From, Late}
use Rattle.node_model.specs.Calls.{Knock_call, Open_call, File_call, Data_call, Leave_call, Give_call, Let_in, Busy, Begun, Filed, Whole_now, Given, Held, Refused, No_memory, Disk}
use Rattle.node_model.specs.Lives.{Happening, Steps, Stops}
use Rattle.node_model.specs.WorkedReceiving.{sender, file}

-- two callers at most, and no file of more than ten bytes
abbrev pub narrow_settings : Settings
narrow_settings = record { max_servers = 2; refuse_names = []; refuse_over = 10 }

abbrev pub narrow : Opening
narrow = record { settings = narrow_settings; faults = 0; fulls = 0; records = 0; staged = 0; drawn = 0 }

-- the ledger holds three records: a refusal and two receipts
abbrev pub narrow_again : Opening
narrow_again = record { settings = narrow_settings; faults = 0; fulls = 0; records = 3; staged = 0; drawn = 2 }

abbrev pub big : Key
big = record { name = 98 ∷ []; size = 11; time = 1000000000 }

abbrev pub empty : Key
empty = record { name = 101 ∷ []; size = 0; time = 1000000000 }

abbrev pub worked_answers : List Happening
worked_answers =
    Stops narrow
    ∷ Steps 0 (Knock_call Answers) Let_in
    ∷ Steps 0 (Open_call Answers (sender ∷ []) true 0) (Begun 1)
    ∷ Steps 1 (Open_call Answers (sender ∷ []) false 0) (Begun 2)
    ∷ Steps 2 (Knock_call Answers) Busy
    ∷ Steps 0 (File_call file 0) (Filed Go)
    ∷ Steps 1 (File_call file 0) (Filed Elsewhere)
    ∷ Steps 1 (File_call big 0) (Filed Refuse)
    ∷ Steps 0 (File_call file 1) (Filed (From 0))
    ∷ Steps 0 (File_call file 1) (Filed Late)
    ∷ Steps 0 (File_call file 0) (Filed Go)
    ∷ Steps 0 (Data_call (1 ∷ 2 ∷ 3 ∷ [])) Whole_now
    ∷ Steps 1 (File_call file 0) (Filed Have)
    ∷ Steps 1 (File_call empty 0) (Filed Whole)
    ∷ Steps 1 Give_call (Given 1)
    ∷ Steps 1 Give_call (Held 2)
    ∷ Steps 1 (File_call file 0) (Refused No_memory)
    ∷ Steps 0 Leave_call (Refused (Disk 1))
    ∷ Stops narrow_again
    ∷ []

abbrev pub given_file : Receipt
given_file =
    record { number = 1; from = sender; key = file; bytes = Some (1 ∷ 2 ∷ 3 ∷ []); secure = true; answered = false; given = true }

abbrev pub empty_file : Receipt
empty_file = record { number = 2; from = sender; key = empty; bytes = Some []; secure = false; answered = false; given = false }

abbrev pub answered_state : Durable
answered_state =
    record { queue = []; inbox = given_file ∷ empty_file ∷ []; refused = record { from = sender; key = big } ∷ []; marks = [] }
