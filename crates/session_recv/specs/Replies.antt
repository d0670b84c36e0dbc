-- How the receiving half stands to the rows of a session over messages: what it holds, what it was asked to say, and what
-- was written of that (FTS-1026).
use Rattle.std.specs.Prelude.{◌≡◌, ◌⊎◌, ◌<◌, ◌+◌, ◌-◌, ◌^◌, ℕ, length, min, Bool, true, false, List, [], ◌∷◌, ◌++◌, Option, Some, None, Result, Ok, Err}
use Rattle.std.specs.List.{flat_map}
use Rattle.ftn_addr.specs.Frames.{frame_bytes}
use Rattle.ftn_addr.specs.Key.{key_of}
use Rattle.binkp_args.specs.Command.{CommandText, Got as GotCommand, Get as GetCommand, Skip as SkipCommand}
use Rattle.binkp_args.specs.Writing.{frame_text_of}
use Rattle.node_model.specs.Calls.{Call, File_call, Data_call, Answer, Filed, Whole_now, Event, Turned, asked_of}
use Rattle.node_model.specs.Rows.{Whole}
use Rattle.node_model.specs.Images.{Stand, RanAt}
use Rattle.node_model.specs.Talk.{Message, Got, Get, Skip, Part, Too_late, Too_much, Refused_by, Outcome, Goes_on, Ends, Verdict}
use Rattle.node_model.specs.Desks.{DeskPart, fault_of, held_after}
use Rattle.node_model.specs.declared.desk.DeskFault.{DeskFault}
use Rattle.node_model.specs.declared.desk.DeskFault.TheVariants as D
use Rattle.session_recv.specs.declared.holding.Receiver.{Receiver}
use Rattle.session_recv.specs.declared.holding.Holding.{Holding}
use Rattle.session_recv.specs.declared.holding.Holding.TheVariants as H
use Rattle.session_recv.specs.declared.receiver.RecvStep.{RecvStep}
use Rattle.session_recv.specs.declared.receiver.RecvStep.TheVariants as S

abbrev pub held_in : Holding → Option Part
held_in H.Idle = None
held_in (H.Dropping held) = Some (record { key = key_of held.key; left = held.left; taking = false })
held_in (H.Taking held) = Some (record { key = key_of held.key; left = held.left; taking = true })

abbrev pub held_of : Receiver → Option Part
held_of r = held_in r.holding

-- the file that is held after these calls
abbrev pub held_along : Option Part → List Event → Option Part
held_along held [] = held
held_along held (e ∷ es) = held_along (held_after held e.call e.answer) es

-- Receipts, counted up to the end of 32 bits: of a file of which nothing was to come, and with the last of its data.

abbrev pub received_after : ℕ → Call → Answer → ℕ
received_after n (File_call key offset) (Filed Whole) = min (n + 1) (2 ^ 32 - 1)
received_after n (Data_call bytes) Whole_now = min (n + 1) (2 ^ 32 - 1)
received_after n call answer = n

abbrev pub received_along : ℕ → List Event → ℕ
received_along n [] = n
received_along n (e ∷ es) = received_along (received_after n e.call e.answer) es

-- What is said.

abbrev pub command_bytes : CommandText → List ℕ
command_bytes command = frame_bytes (frame_text_of command)

-- the frame of a message that the receiving half says
abbrev pub reply_bytes : Message → List ℕ
reply_bytes (Got key) = command_bytes (GotCommand key)
reply_bytes (Get key offset) = command_bytes (GetCommand key offset)
reply_bytes (Skip key) = command_bytes (SkipCommand key)
reply_bytes message = []

abbrev pub replies_bytes : List Message → List ℕ
replies_bytes said = flat_map reply_bytes said

-- how a step came out, in the terms of a row
abbrev pub step_outcome : Result RecvStep DeskFault → Outcome
step_outcome (Ok S.More) = Goes_on
step_outcome (Ok S.Late) = Ends Too_late
step_outcome (Ok S.TooMuch) = Ends Too_much
step_outcome (Err fault) = Ends (Refused_by (fault_of fault))

-- The output grew by what the row says; or it says something, and nothing was written for want of memory.
abbrev pub WritesStep : List ℕ → List ℕ → Verdict → Result RecvStep DeskFault → Type 0
WritesStep out out' v step =
    ((step_outcome step ≡ v.outcome) × (out' ≡ out ++ replies_bytes v.said)) ⊎ ((step ≡ Err D.NoMemory) × (0 < length (replies_bytes v.said)) × (out' ≡ out))

-- a row of these was made: its calls ran at the desk, the file is held that they leave, and their receipts are counted
pub record DidTake (P : List Event → Verdict → Type 0) (alone : Bool) (old new : Stand) (held held' : Option Part) (count count' : ℕ) (out out' : List ℕ) (step : Result RecvStep DeskFault) : Type 0 where
  pub events : List Turned
  pub verdict : Verdict
  pub row : P (asked_of events) verdict
  pub ran : RanAt alone old events new
  pub held_is : held' ≡ held_along held (asked_of events)
  pub count_is : count' ≡ received_along count (asked_of events)
  pub writes : WritesStep out out' verdict step

-- a desk's part with that file held
abbrev pub holding : DeskPart → Option Part → DeskPart
holding part held = record part { held = held }

-- that message was written, or nothing for want of memory
abbrev pub SaysOnly : Message → List ℕ → List ℕ → Result RecvStep DeskFault → Type 0
SaysOnly message out out' step =
    ((step ≡ Ok S.More) × (out' ≡ out ++ replies_bytes (message ∷ []))) ⊎ ((step ≡ Err D.NoMemory) × (out' ≡ out))
