-- The rows of a session over frames: its login, the messages after it, and its own turn (FTS-1026, session stages).
use Rattle.std.specs.Prelude.{◌≡◌, ◌⊎◌, ℕ, ◌-◌, ◌^◌, ◌<◌, min, Bool, false, List, [], ◌++◌, length, Option, None, Result, Ok, Err}
use Rattle.ftn_addr.specs.Address.{Address}
use Rattle.ftn_addr.specs.Frames.{FrameText, Command as CommandFrame, Data as DataFrame}
use Rattle.binkp_args.specs.declared.fault.ArgFault.{ArgFault}
use Rattle.binkp_args.specs.declared.fault.ArgFault.TheVariants.{NoAddress}
use Rattle.binkp_args.specs.Command.{CommandText, Nul, Adr, Pwd, File as FileCommand, Accept, Eob, Got as GotCommand, Error, Bsy, Get as GetCommand, Skip as SkipCommand, Other, command_of}
use Rattle.node_model.specs.Calls.{Open_call, Fault, Disk, Read, Full, No_memory, Answer, Let_in, Busy, Begun, Refused, Event, one}
use Rattle.node_model.specs.Talk.{Message, File, Data, Got, Get, Skip, End as EndMessage, Talk, first_words, Part, RowEnd, Finished, Out_of_turn, Too_late, Too_much, Refused_by, Outcome, Goes_on, Waits, Ends, Verdict, TakeRow, TurnRow}
use Rattle.session_auth.specs.Greeting.{greeting}
use Rattle.session_auth.specs.Login.{Terms, Stage as LoginStage, Step, More as LoginMore, In, Bad_password, Peer_error, Peer_busy, Broke, reply_to}
use Rattle.session_auth.specs.Says.{said_bytes as login_bytes}
use Rattle.session_auth.specs.Sides.{Side}
use Rattle.session_auth.specs.declared.steps.LoginFault.{LoginFault}
use Rattle.session_auth.specs.declared.steps.LoginFault.TheVariants as F
use Rattle.session_send.specs.Senders.{IsDue, CommandRow as SenderRow}
use Rattle.session_recv.specs.Replies.{held_along}
use Rattle.session_core.specs.declared.ending.Cause.{Cause}
use Rattle.session_core.specs.declared.ending.Cause.TheVariants as C
use Rattle.session_core.specs.Ends.{End}
use Rattle.session_core.specs.Ends as E
use Rattle.session_core.specs.Takings.{Took}
use Rattle.session_core.specs.Takings as T
use Rattle.session_core.specs.Givings.{Gave}
use Rattle.session_core.specs.Givings as G
use Rattle.session_core.specs.Stages.{role_of, Setting, Stage, Logs_in, Talks, at_first}
use Rattle.session_core.specs.Says.{said_bytes, filling, too_many, cause_bytes, fault_bytes, last_words}

-- Ends.

abbrev pub fault_end : Fault → End
fault_end (Disk count) = E.DiskFault count
fault_end (Read count) = E.DiskFault count
fault_end Full = E.LedgerFull
fault_end No_memory = E.NoMemory

-- the end that a row gives at the peer's frame with that number
abbrev pub end_of : ℕ → RowEnd → End
end_of n Finished = E.Finished
end_of n Out_of_turn = E.Broke C.OutOfTurn n
end_of n Too_late = E.Broke C.Late n
end_of n Too_much = E.Broke C.TooMuch n
end_of n (Refused_by fault) = fault_end fault

-- the number of the last of these frames, up to the type's end
abbrev pub frame_number : List FrameText → ℕ
frame_number frames = min (length frames) (2 ^ 64 - 1)

-- Rows.

-- what a row writes, whether it ends the session, and how the session stands then
pub record Reply : Type 0 where
  pub output : List ℕ
  pub took : Took
  pub stage : Stage

abbrev pub on : Stage → List ℕ → Reply
on stage output = record { output = output; took = T.More; stage = stage }

abbrev pub over : Stage → List ℕ → End → Reply
over stage output end = record { output = output; took = T.Ended end; stage = stage }

-- the peer's frame with that number is refused
abbrev pub breaks : ℕ → Stage → Cause → Reply
breaks n stage cause = over stage (cause_bytes cause) (E.Broke cause n)

-- no call, and this reply
abbrev pub Plain : Reply → List Event → Reply → Type 0
Plain reply es r = (es ≡ []) × (r ≡ reply)

-- The login, whose rows are those of `session_auth`.

-- what it goes by
abbrev pub terms_of : Setting → Terms
terms_of s = record { side = s.side; challenge = s.challenge; conf = s.conf }

abbrev pub cause_of : LoginFault → Cause
cause_of F.NoAddress = C.Arg NoAddress
cause_of F.NotCalled = C.NotCalled
cause_of F.OutOfTurn = C.OutOfTurn

-- the peer is in once the desk has opened its session; what the login says stands before a refusal
abbrev pub AfterBegin : Side → LoginStage → List ℕ → Answer → Reply → Type 0
AfterBegin side at said (Begun number) r = r ≡ on (Talks (first_words (role_of side)) None) said
AfterBegin side at said (Refused fault) r = r ≡ over (Logs_in at) (said ++ fault_bytes fault) (fault_end fault)
AfterBegin side at said _ r = ⊥

-- these peers are to be let in, by a login that is secure or not
pub record BeginRow (s : Setting) (at : LoginStage) (said : List ℕ) (peers : List Address) (secure : Bool) (es : List Event) (r : Reply) : Type 0 where
  pub answer : Answer
  pub asks : es ≡ one (Open_call (role_of s.side) peers secure s.moment) answer
  pub follows : AfterBegin s.side at said answer r

-- what becomes of the session by a step of its login
abbrev pub StepRow : Setting → ℕ → LoginStage → List ℕ → Step → List Event → Reply → Type 0
StepRow s n at said (LoginMore stage) es r = Plain (on (Logs_in stage) said) es r
StepRow s n at said (In peers secure) es r = BeginRow s at said peers secure es r
StepRow s n at said (Bad_password wanted given) es r = Plain (over (Logs_in at) said (E.BadPassword wanted given)) es r
StepRow s n at said (Peer_error text) es r = Plain (over (Logs_in at) said (E.PeerError text)) es r
StepRow s n at said Peer_busy es r = Plain (over (Logs_in at) said E.PeerBusy) es r
StepRow s n at said (Broke fault) es r = Plain (over (Logs_in at) said (E.Broke (cause_of fault) n)) es r

-- a command where the login stands there
abbrev pub LoginRow : Setting → ℕ → LoginStage → CommandText → List Event → Reply → Type 0
LoginRow s n at command es r =
    StepRow s n at (login_bytes (reply_to (terms_of s) at command).said) (reply_to (terms_of s) at command).step es r

-- After login.

abbrev pub outcome_bytes : Outcome → List ℕ
outcome_bytes Goes_on = []
outcome_bytes Waits = []
outcome_bytes (Ends end) = last_words end

abbrev pub outcome_took : ℕ → Outcome → Took
outcome_took n Goes_on = T.More
outcome_took n Waits = T.More
outcome_took n (Ends end) = T.Ended (end_of n end)

abbrev pub reply_of : ℕ → Option Part → List Event → Verdict → Reply
reply_of n held es v =
    record { output = said_bytes v.said ++ outcome_bytes v.outcome; took = outcome_took n v.outcome; stage = Talks v.after (held_along held es) }

-- a message after login
pub record TalkRow (n : ℕ) (talk : Talk) (held : Option Part) (message : Message) (es : List Event) (r : Reply) : Type 0 where
  pub verdict : Verdict
  pub row : TakeRow held talk message es verdict
  pub is : r ≡ reply_of n held es verdict

-- M_GOT, M_GET and M_SKIP, which the sending half takes
pub record AnswerRow (n : ℕ) (talk : Talk) (held : Option Part) (command : CommandText) (es : List Event) (r : Reply) : Type 0 where
  pub verdict : Verdict
  pub row : SenderRow talk command es verdict
  pub is : r ≡ reply_of n held es verdict

-- a command after login
abbrev pub LoggedRow : ℕ → Talk → Option Part → CommandText → List Event → Reply → Type 0
LoggedRow n talk held (Nul text) es r = Plain (on (Talks talk held) []) es r
LoggedRow n talk held (Adr addresses) es r = Plain (on (Talks talk held) []) es r
LoggedRow n talk held (Pwd text) es r = Plain (on (Talks talk held) []) es r
LoggedRow n talk held (FileCommand key offset) es r = TalkRow n talk held (File key offset) es r
LoggedRow n talk held (Accept text) es r = Plain (on (Talks talk held) []) es r
LoggedRow n talk held Eob es r = TalkRow n talk held EndMessage es r
LoggedRow n talk held (GotCommand key) es r = TalkRow n talk held (Got key) es r
LoggedRow n talk held (Error text) es r = Plain (over (Talks talk held) [] (E.PeerError text)) es r
LoggedRow n talk held (Bsy text) es r = Plain (over (Talks talk held) [] E.PeerBusy) es r
LoggedRow n talk held (GetCommand key offset) es r = TalkRow n talk held (Get key offset) es r
LoggedRow n talk held (SkipCommand key) es r = TalkRow n talk held (Skip key) es r
LoggedRow n talk held (Other number) es r = Plain (on (Talks talk held) []) es r

-- Frames.

abbrev pub CommandRow : Setting → ℕ → Stage → CommandText → List Event → Reply → Type 0
CommandRow s n (Logs_in at) command es r = LoginRow s n at command es r
CommandRow s n (Talks talk held) command es r = LoggedRow n talk held command es r

abbrev pub ReadRow : Setting → ℕ → Stage → Result CommandText ArgFault → List Event → Reply → Type 0
ReadRow s n stage (Ok command) es r = CommandRow s n stage command es r
ReadRow s n stage (Err fault) es r = Plain (breaks n stage (C.Arg fault)) es r

abbrev pub DataRow : ℕ → Stage → List ℕ → List Event → Reply → Type 0
DataRow n (Talks talk held) bytes es r = TalkRow n talk held (Data bytes) es r
DataRow n stage bytes es r = Plain (breaks n stage C.OutOfTurn) es r

-- the peer's frame with that number
abbrev pub Row : Setting → ℕ → Stage → FrameText → List Event → Reply → Type 0
Row s n stage (CommandFrame number args) es r = ReadRow s n stage (command_of s.home number args) es r
Row s n stage (DataFrame bytes) es r = DataRow n stage bytes es r

-- the first turn: this side knocks at its desk, and greets the peer or turns it away
abbrev pub AfterKnock : Setting → Answer → Reply → Type 0
AfterKnock s Let_in r = r ≡ on at_first (login_bytes (greeting s.side s.conf s.challenge s.moment))
AfterKnock s Busy r = r ≡ over at_first too_many E.TurnedAway
AfterKnock s (Refused fault) r = r ≡ over at_first (fault_bytes fault) (fault_end fault)
AfterKnock s _ r = ⊥

-- The own turn.

pub record Turn : Type 0 where
  pub output : List ℕ
  pub gave : Gave
  pub stage : Stage

abbrev pub outcome_gave : Outcome → Gave
outcome_gave Goes_on = G.Sent
outcome_gave Waits = G.Waits
outcome_gave (Ends end) = G.Ended (end_of 0 end)

abbrev pub turn_of : Option Part → Verdict → Turn
turn_of held v =
    record { output = said_bytes v.said ++ (filling v.filled ++ outcome_bytes v.outcome); gave = outcome_gave v.outcome; stage = Talks v.after held }

pub record TalkTurn (block : ℕ) (talk : Talk) (held : Option Part) (es : List Event) (t : Turn) : Type 0 where
  pub verdict : Verdict
  pub row : TurnRow block held talk es verdict
  pub is : t ≡ turn_of held verdict

-- at the login it waits
abbrev pub GiveRow : (block : ℕ) → Stage → List Event → Turn → Type 0
GiveRow block (Talks talk held) es t = TalkTurn block talk held es t
GiveRow block stage es t = (es ≡ []) × (t ≡ record { output = []; gave = G.Waits; stage = stage })

-- the own turn says something of the file under way
abbrev pub OwesFile : Stage → Type 0
OwesFile (Talks talk held) = (talk.own_end ≡ false) × IsDue talk.sending
OwesFile stage = ⊥

-- Want of memory is free: in place of its reply a row that made its calls may write less than all of it, and end.

abbrev pub IsCut : (output written : List ℕ) → Type 0
IsCut output written = (rest : List ℕ) × (0 < length rest) × (output ≡ written ++ rest)

abbrev pub Said : List ℕ → Took → List ℕ → Took → Type 0
Said output goal written took = ((took ≡ goal) × (written ≡ output)) ⊎ ((took ≡ T.Ended E.NoMemory) × IsCut output written)

abbrev pub Gives : List ℕ → Gave → List ℕ → Gave → Type 0
Gives output goal written gave = ((gave ≡ goal) × (written ≡ output)) ⊎ ((gave ≡ G.Ended E.NoMemory) × IsCut output written)
