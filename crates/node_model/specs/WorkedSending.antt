-- A worked life of a node that sends: a file is queued twice in one change, offered, read, sent and settled, and its
-- source is deleted (own).
use Rattle.std.specs.Prelude.{true, List, [], ◌∷◌, Some, None}
use Rattle.ftn_addr.specs.declared.source_file.Action.TheVariants.{Delete}
use Rattle.node_model.specs.declared.words.Flavour.TheVariants.{Crash}
use Rattle.node_model.specs.declared.words.Role.TheVariants.{Calls}
use Rattle.node_model.specs.Items.{Done, Entry}
use Rattle.node_model.specs.Durable.{Durable}
use Rattle.node_model.specs.SendRows.{NewFile, New, Again}
use Rattle.node_model.specs.Calls.{Queue_call, Knock_call, Open_call, Offer_call, Read_call, Got_call, Leave_call, Act_call, Queued, Let_in, Begun, Offered, Nothing, Came, Settled, Acted}
use Rattle.node_model.specs.Lives.{Happening, Steps}
use Rattle.node_model.specs.WorkedReceiving.{sender, file}

-- the file is for the peer, from the source /o
abbrev pub outgoing : NewFile
outgoing =
    record { dest = sender; key = file; flavour = Crash; source = 47 ∷ 111 ∷ []; action = Delete; bytes = 1 ∷ 2 ∷ 3 ∷ [] }

abbrev pub worked_sending : List Happening
worked_sending =
    Steps 0 (Queue_call (outgoing ∷ outgoing ∷ []) (Some 7) None) (Queued (New 1 ∷ Again 1 ∷ []))
    ∷ Steps 0 (Knock_call Calls) Let_in
    ∷ Steps 0 (Open_call Calls (sender ∷ []) true 0) (Begun 1)
    ∷ Steps 0 Offer_call (Offered 1 file)
    ∷ Steps 0 (Read_call 1 10) (Came (2 ∷ 3 ∷ []))
    ∷ Steps 0 (Got_call 1) Settled
    ∷ Steps 0 Offer_call Nothing
    ∷ Steps 0 Leave_call Settled
    ∷ Steps 0 (Act_call sender) (Acted 1)
    ∷ Steps 0 (Act_call sender) Nothing
    ∷ []

abbrev pub sent_entry : Entry
sent_entry =
    record { number = 1; dest = sender; key = file; flavour = Crash; source = 47 ∷ 111 ∷ []; action = Delete; acted = true; body = Done }

-- the file is settled, and its bytes are gone
abbrev pub sent_state : Durable
sent_state = record { queue = sent_entry ∷ []; inbox = []; refused = []; marks = [] }
