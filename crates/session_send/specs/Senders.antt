-- The sending half of a session: its file under way, what its rows write, and what its calls do (FTS-1026).
use Rattle.std.specs.Prelude.{◌≡◌, ◌⊎◌, ◌<◌, ℕ, Bool, true, List, [], ◌∷◌, ◌++◌, length, Option, Some, None, option_map, Result, Ok, Err, OnOk, OnErr, ◌+◌, ◌-◌, ◌^◌, min}
use Rattle.std.specs.List.{flat_map}
use Rattle.ftn_addr.specs.Frames.{Data as DataFrame, frame_bytes}
use Rattle.ftn_addr.specs.Key.{Key, key_of}
use Rattle.binkp_args.specs.Command.{CommandText, File as FileCommand, Got as GotCommand, Get as GetCommand, Skip as SkipCommand}
use Rattle.binkp_args.specs.Writing.{frame_text_of}
use Rattle.node_model.specs.Calls.{Call, Got_call, Skip_call, Answer, Settled, Event, Fault, Turned, asked_of}
use Rattle.node_model.specs.Desks.{Claim, fault_of}
use Rattle.node_model.specs.Images.{Stand, RanAt}
use Rattle.node_model.specs.Talk.{Message, File, Data, Sending, Talk, Refused_by, Outcome, Goes_on, Ends, Verdict, on, GotTaken, SkipTaken, GetTaken, SendVerdict, Sent, Filled, Waiting, Empty, Fails, SendRow}
use Rattle.node_model.specs.declared.desk.DeskFault.{DeskFault}
use Rattle.node_model.specs.declared.desk.DeskFault.TheVariants as D
use Rattle.session_send.specs.declared.sending.Sender.{Sender}
use Rattle.session_send.specs.declared.sending.Sending.{Sending as CodeSending}
use Rattle.session_send.specs.declared.sending.SendStep.{SendStep}
use Rattle.session_send.specs.declared.sending.SendStep.TheVariants as S

-- Views.

abbrev pub sending_text : CodeSending → Sending
sending_text s = record { number = s.number; key = key_of s.key; place = s.place; bare = s.bare }

-- the file under way
abbrev pub sending_of : Sender → Option Sending
sending_of s = option_map sending_text s.sending

-- the entry that a desk has claimed for the file under way
abbrev pub claim_of : Option Sending → Option Claim
claim_of sending = option_map (λ (s : Sending). record { number = s.number; key = s.key }) sending

-- Files that the peer answered for, counted up to the end of 32 bits: those that it acknowledged, and those that it left to
-- a later session.
pub record SendCounts : Type 0 where
  pub sent : ℕ
  pub skipped : ℕ

abbrev pub counts_in : Sender → SendCounts
counts_in s = record { sent = s.sent; skipped = s.skipped }

abbrev pub sent_after : ℕ → Call → Answer → ℕ
sent_after n (Got_call number) Settled = min (n + 1) (2 ^ 32 - 1)
sent_after n call answer = n

abbrev pub skipped_after : ℕ → Call → Answer → ℕ
skipped_after n (Skip_call number) Settled = min (n + 1) (2 ^ 32 - 1)
skipped_after n call answer = n

abbrev pub counts_after : SendCounts → Call → Answer → SendCounts
counts_after c call answer = record { sent = sent_after c.sent call answer; skipped = skipped_after c.skipped call answer }

abbrev pub counts_along : SendCounts → List Event → SendCounts
counts_along c [] = c
counts_along c (e ∷ es) = counts_along (counts_after c e.call e.answer) es

-- What is written.

-- the bytes of a file that is offered, and of its data: the sender says nothing else
abbrev pub offer_bytes : Message → List ℕ
offer_bytes (File key offset) = frame_bytes (frame_text_of (FileCommand key offset))
offer_bytes (Data bytes) = frame_bytes (DataFrame bytes)
offer_bytes message = []

abbrev pub offers_bytes : List Message → List ℕ
offers_bytes said = flat_map offer_bytes said

-- the frame of no data
abbrev pub empty_frame : List ℕ
empty_frame = 0 ∷ 0 ∷ []

-- A command of the peer's.

-- the key is that of the file under way
pub record IsUnderWay (key : Key) (sending : Option Sending) : Type 0 where
  pub file : Sending
  pub is : sending ≡ Some file
  pub keyed : file.key ≡ key

-- what the peer answers to the file under way has its row, and every other command is passed over
abbrev pub CommandRow : Talk → CommandText → List Event → Verdict → Type 0
CommandRow t (GotCommand key) es v = GotTaken t key es v
CommandRow t (SkipCommand key) es v = SkipTaken t key es v
CommandRow t (GetCommand key offset) es v = GetTaken t key offset es v
CommandRow t command es v = (es ≡ []) × (v ≡ on t [])

abbrev pub taken_outcome : Result (Unit {0}) DeskFault → Outcome
taken_outcome (Ok done) = Goes_on
taken_outcome (Err fault) = Ends (Refused_by (fault_of fault))

-- the output grew by what the row says, or by nothing of something, for want of memory
abbrev pub WritesTaken : List ℕ → List ℕ → Verdict → Result (Unit {0}) DeskFault → Type 0
WritesTaken out out' v result =
    ((taken_outcome result ≡ v.outcome) × (out' ≡ out ++ offers_bytes v.said)) ⊎ ((result ≡ Err D.NoMemory) × (0 < length (offers_bytes v.said)) × (out' ≡ out))

-- a row was made, and after it that file is under way; after a refusal the same one as before
pub record Takes (P : List Event → Verdict → Type 0) (alone : Bool) (old new : Stand) (t : Talk) (now : Option Sending) (counts counts' : SendCounts) (out out' : List ℕ) (result : Result (Unit {0}) DeskFault) : Type 0 where
  pub events : List Turned
  pub verdict : Verdict
  pub row : P (asked_of events) verdict
  pub ran : RanAt alone old events new
  pub after : OnOk result (verdict.after ≡ record t { sending = now })
  pub kept : OnErr result (now ≡ t.sending)
  pub counted : counts' ≡ counts_along counts (asked_of events)
  pub writes : WritesTaken out out' verdict result

-- a row that asks the desk for nothing was made
pub record TakesPlain (P : List Event → Verdict → Type 0) (t : Talk) (now : Option Sending) (out out' : List ℕ) (result : Result (Unit {0}) DeskFault) : Type 0 where
  pub verdict : Verdict
  pub row : P [] verdict
  pub after : OnOk result (verdict.after ≡ record t { sending = now })
  pub kept : OnErr result (now ≡ t.sending)
  pub writes : WritesTaken out out' verdict result

-- The next step.

-- the next step says something of the file under way: data, or an empty frame
abbrev pub IsDue : Option Sending → Type 0
IsDue None = ⊥
IsDue (Some s) = (s.place < s.key.size) ⊎ (s.bare ≡ true)

-- what is sent is written, but for an offer that finds no memory
abbrev pub Says : Message → List ℕ → List ℕ → Result SendStep DeskFault → Type 0
Says (File key offset) out out' result =
    ((result ≡ Ok S.Sent) × (out' ≡ out ++ offer_bytes (File key offset))) ⊎ ((result ≡ Err D.NoMemory) × (out' ≡ out))
Says message out out' result = (result ≡ Ok S.Sent) × (out' ≡ out ++ offer_bytes message)

abbrev pub IsRefused : Fault → Result SendStep DeskFault → Type 0
IsRefused fault (Ok step) = ⊥
IsRefused fault (Err refusal) = fault_of refusal ≡ fault

-- what the row of a step answers and writes, and the file that is under way then
abbrev pub Follows : SendVerdict → Option Sending → Option Sending → List ℕ → List ℕ → Result SendStep DeskFault → Type 0
Follows (Sent message s) was now out out' result = (now ≡ Some s) × Says message out out' result
Follows (Filled s) was now out out' result = (now ≡ Some s) × ((result ≡ Ok S.Sent) × (out' ≡ out ++ empty_frame))
Follows Waiting was now out out' result = (now ≡ was) × ((result ≡ Ok S.Waiting) × (out' ≡ out))
Follows Empty was now out out' result = (now ≡ was) × ((result ≡ Ok S.Empty) × (out' ≡ out))
Follows (Fails fault) was now out out' result = (now ≡ was) × (IsRefused fault result × (out' ≡ out))

-- a row was made
pub record Makes (block : ℕ) (was : Option Sending) (alone : Bool) (old new : Stand) (now : Option Sending) (out out' : List ℕ) (result : Result SendStep DeskFault) : Type 0 where
  pub events : List Turned
  pub verdict : SendVerdict
  pub row : SendRow block was (asked_of events) verdict
  pub ran : RanAt alone old events new
  pub follows : Follows verdict was now out out' result

-- no row was made, for want of memory, where something of the file under way is due
pub record GivesUp (was : Option Sending) (alone : Bool) (old new : Stand) (now : Option Sending) (out out' : List ℕ) (result : Result SendStep DeskFault) : Type 0 where
  pub due : IsDue was
  pub ran : RanAt alone old [] new
  pub same : now ≡ was
  pub out_is : out' ≡ out
  pub is : result ≡ Err D.NoMemory

abbrev pub Steps : (block : ℕ) (was : Option Sending) (alone : Bool) (old new : Stand) (now : Option Sending) (out out' : List ℕ) (result : Result SendStep DeskFault) → Type 0
Steps block was alone old new now out out' result = Makes block was alone old new now out out' result ⊎ GivesUp was alone old new now out out' result
