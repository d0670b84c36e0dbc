-- What a session says beside its login (FTS-1026; the texts of M_ERR and M_BSY are own).
use Rattle.std.specs.Prelude.{ℕ, Bool, true, false, List, [], codes}
use Rattle.std.specs.List.{flat_map}
use Rattle.binkp_args.specs.Command.{Eob, Error, Bsy}
use Rattle.node_model.specs.Calls.{Fault, Disk, Read, Full, No_memory}
use Rattle.node_model.specs.Talk.{Message, File, Data, Got, Get, Skip, End, RowEnd, Finished, Out_of_turn, Too_late, Too_much, Refused_by}
use Rattle.session_send.specs.Senders.{offer_bytes, empty_frame}
use Rattle.session_recv.specs.Replies.{command_bytes, reply_bytes}
use Rattle.session_core.specs.declared.ending.Cause.{Cause}
use Rattle.session_core.specs.declared.ending.Cause.TheVariants as C

-- the frame of a message: M_EOB is the session's own, the others are those of its halves
abbrev pub message_bytes : Message → List ℕ
message_bytes (File key offset) = offer_bytes (File key offset)
message_bytes (Data bytes) = offer_bytes (Data bytes)
message_bytes (Got key) = reply_bytes (Got key)
message_bytes (Get key offset) = reply_bytes (Get key offset)
message_bytes (Skip key) = reply_bytes (Skip key)
message_bytes End = command_bytes Eob

abbrev pub said_bytes : List Message → List ℕ
said_bytes said = flat_map message_bytes said

-- the frame of no data, where one is written
abbrev pub filling : Bool → List ℕ
filling true = empty_frame
filling false = []

unfoldable pub broken_frame : List ℕ
broken_frame = command_bytes (Error (codes "broken frame"))

unfoldable pub offset_again : List ℕ
offset_again = command_bytes (Error (codes "offset again"))

unfoldable pub not_called : List ℕ
not_called = command_bytes (Error (codes "not the called address"))

unfoldable pub disk_fault : List ℕ
disk_fault = command_bytes (Error (codes "disk fault"))

unfoldable pub ledger_full : List ℕ
ledger_full = command_bytes (Error (codes "ledger full"))

unfoldable pub too_many : List ℕ
too_many = command_bytes (Bsy (codes "too many servers"))

-- the M_ERR that a frame owes which is refused
abbrev pub cause_bytes : Cause → List ℕ
cause_bytes C.Late = offset_again
cause_bytes C.NotCalled = not_called
cause_bytes _ = broken_frame

-- the M_ERR that a refusal of the desk owes
abbrev pub fault_bytes : Fault → List ℕ
fault_bytes (Disk count) = disk_fault
fault_bytes (Read count) = disk_fault
fault_bytes Full = ledger_full
fault_bytes No_memory = []

abbrev pub last_words : RowEnd → List ℕ
last_words Finished = []
last_words Out_of_turn = cause_bytes C.OutOfTurn
last_words Too_late = cause_bytes C.Late
last_words Too_much = cause_bytes C.TooMuch
last_words (Refused_by fault) = fault_bytes fault
