-- The records of a ledger, as a node has them (own).
use Rattle.std.specs.Prelude.{ℕ, ◌==◌, List, [], ◌∷◌, ◌++◌, Result, Ok, Err, if◌then◌else◌}
use Rattle.ftn_addr.specs.declared.source_file.Action.{Action}
use Rattle.ftn_addr.specs.declared.source_file.Action.TheVariants.{Leave, Delete, Cut}
use Rattle.ledger_rec.specs.Payloads.{record_in}
use Rattle.ledger_rec.specs.Record.{RecordText, Queue, Done, Received, Refused, Mark, Taken, Acted, Answered}
use Rattle.ledger_rec.specs.declared.fault.RecFault.{RecFault}
use Rattle.node_model.specs.Node.{Record, Logged, Queue_record, Done_record, Received_record, Refused_record, Mark_record, Taken_record, Acted_record, Answered_record}
use Rattle.node_model.specs.declared.words.Flavour.{Flavour}
use Rattle.node_model.specs.declared.words.Flavour.TheVariants.{Immediate, Crash, Direct, Normal, Hold}

-- A flavour and an action have these numbers in a record.

abbrev pub flavour_number : Flavour → ℕ
flavour_number Immediate = 0
flavour_number Crash = 1
flavour_number Direct = 2
flavour_number Normal = 3
flavour_number Hold = 4

abbrev pub flavour_of : ℕ → Flavour
flavour_of n = if n == 0 then Immediate else if n == 1 then Crash else if n == 2 then Direct else if n == 3 then Normal else Hold

abbrev pub action_number : Action → ℕ
action_number Leave = 0
action_number Delete = 1
action_number Cut = 2

abbrev pub action_of : ℕ → Action
action_of n = if n == 0 then Leave else if n == 1 then Delete else Cut

-- a record as the node has it
abbrev pub noted : RecordText → Record
noted (Queue r) = Queue_record r.number r.dest r.key (flavour_of r.flavour) r.source (action_of r.action)
noted (Done number session) = Done_record number session
noted (Received r) = Received_record r.receipt r.from r.key r.session r.secure
noted (Refused r) = Refused_record r.from r.key r.session r.reason
noted (Mark r) = Mark_record r.part r.from r.key r.len
noted (Taken take) = Taken_record take
noted (Acted number) = Acted_record number
noted (Answered receipt) = Answered_record receipt

abbrev pub logged : ℕ → Result RecordText RecFault → List Logged
logged seat (Ok r) = record { seat = seat; entry = noted r } ∷ []
logged seat (Err e) = []

-- the records of these payloads, each with its seat
abbrev pub log_of : List ℕ → List (List ℕ) → List Logged
log_of (seat ∷ seats) (payload ∷ payloads) = logged seat (record_in payload) ++ log_of seats payloads
log_of [] payloads = []
log_of (seat ∷ seats) [] = []
