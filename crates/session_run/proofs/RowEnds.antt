-- A row whose call was refused ends the session by that, and so does the peer's M_ERR or M_BSY.
use Rattle.std.proofs.Common.{◌≡◌, ℕ, List, [], ◌∷◌, Option, Some, None, Result, Ok, Err, refl, sym, ap, subst}
use Rattle.ftn_addr.specs.Frames.{FrameText, Command, Data}
use Rattle.ftn_addr.specs.Key.{Key}
use Rattle.binkp_args.specs.declared.fault.ArgFault.{ArgFault}
use Rattle.binkp_args.specs.Command.{CommandText, Nul, Adr, Pwd, File as FileCommand, Accept, Eob, Got as GotCommand, Error, Bsy, Get as GetCommand, Skip as SkipCommand, Other, command_of}
use Rattle.node_model.specs.Calls.{Call, Fault, Answer, Let_in, Busy, Begun, Offered, Nothing, Came, Settled, Filed, More, Whole_now, Refused, Event, one}
use Rattle.node_model.specs.Talk.{Message, File, Data as DataMessage, Got, Get, Skip, End as EndMessage, Talk, Part, Refused_by, Verdict, ends, TakeRow, AfterFile, AfterData, AfterSettling, Nothing_held, Drops, Exceeds, Fits, Settles, Passes_got, Skips, Passes_skip, Resends, Passes_get, Sending, SendVerdict, Fails, SendRow, Reads, Fills, Awaits, Asks, AfterRead, AfterOffer, AfterSend, Ends_by, TurnRow, Finishes, Rests, Gives as GivesRow}
use Rattle.session_auth.specs.Login.{Stage as LoginStage, Awaits_address, Awaits_password, Awaits_word, Step, More as LoginMore, In, Bad_password, Peer_error, Peer_busy, Broke, reply_to}
use Rattle.session_auth.specs.Sides.{Side}
use Rattle.session_core.specs.Ends.{End}
use Rattle.session_core.specs.Ends as E
use Rattle.session_core.specs.Takings.{Took}
use Rattle.session_core.specs.Takings as T
use Rattle.session_core.specs.Givings.{Gave}
use Rattle.session_core.specs.Givings as G
use Rattle.session_core.specs.Stages.{Setting, Stage, Logs_in, Talks}
use Rattle.session_core.specs.Sessions.{Reply, Row, ReadRow, CommandRow, StepRow, LoggedRow, TalkRow, DataRow, AfterBegin, AfterKnock, Plain, terms_of, fault_end, outcome_took, outcome_gave, Turn, GiveRow}
use Rattle.session_run.proofs.Causes.{read_as, said_by}

abbrev pub took_end : Took → Option End
took_end T.More = None
took_end (T.Ended end) = Some end

abbrev pub gave_end : Gave → Option End
gave_end G.Sent = None
gave_end G.Waits = None
gave_end (G.Ended end) = Some end

abbrev pub AnswerGives : Answer → Option End → Type 0
AnswerGives (Refused fault) o = o ≡ Some (fault_end fault)
AnswerGives Busy o = o ≡ Some E.TurnedAway
AnswerGives answer o = Unit {0}

-- at most one call was made, and its answer gives that end
abbrev pub CallGives : List Event → Option End → Type 0
CallGives [] o = Unit {0}
CallGives (e ∷ []) o = AnswerGives e.answer o
CallGives (e ∷ f ∷ es) o = ⊥

by_none : (es : List Event) (o : Option End) → es ≡ [] → CallGives es o
by_none es o e = subst (λ (x : List Event). CallGives x o) (sym e) tt

by_one : (call : Call) (answer : Answer) (es : List Event) (o : Option End) → es ≡ one call answer → AnswerGives answer o → CallGives es o
by_one call answer es o e g = subst (λ (x : List Event). CallGives x o) (sym e) g

plain_gives : (reply r : Reply) (es : List Event) → Plain reply es r → CallGives es (took_end r.took)
plain_gives reply r es p = by_none es (took_end r.took) p.0

-- The login.

begin_gives : (side : Side) (at : LoginStage) (said : List ℕ) (call : Call) (answer : Answer) (es : List Event) (r : Reply) → es ≡ one call answer → AfterBegin side at said answer r → CallGives es (took_end r.took)
begin_gives side at said call (Begun number) es r e a = by_one call (Begun number) es _ e tt
begin_gives side at said call (Refused fault) es r e a = by_one call (Refused fault) es _ e (ap (λ (x : Reply). took_end x.took) a)
begin_gives side at said call answer es r e a = absurd a

step_gives : (s : Setting) (n : ℕ) (at : LoginStage) (said : List ℕ) (step : Step) (es : List Event) (r : Reply) → StepRow s n at said step es r → CallGives es (took_end r.took)
step_gives s n at said (LoginMore stage) es r row = plain_gives _ r es row
step_gives s n at said (In peers secure) es r row = begin_gives s.side at said _ row.answer es r row.asks row.follows
step_gives s n at said (Bad_password wanted given) es r row = plain_gives _ r es row
step_gives s n at said (Peer_error text) es r row = plain_gives _ r es row
step_gives s n at said Peer_busy es r row = plain_gives _ r es row
step_gives s n at said (Broke fault) es r row = plain_gives _ r es row

-- After login.

abbrev pub VerdictGives : ℕ → List Event → Verdict → Type 0
VerdictGives n es v = CallGives es (took_end (outcome_took n v.outcome))

refused_gives : (n : ℕ) (call : Call) (fault : Fault) (es : List Event) (v w : Verdict) → es ≡ one call (Refused fault) → took_end (outcome_took n w.outcome) ≡ Some (fault_end fault) → v ≡ w → VerdictGives n es v
refused_gives n call fault es v w e ends a = subst (VerdictGives n es) (sym a) (by_one call (Refused fault) es _ e ends)

file_gives : (n : ℕ) (t : Talk) (key : Key) (call : Call) (answer : Answer) (es : List Event) (v : Verdict) → es ≡ one call answer → AfterFile t key answer v → VerdictGives n es v
file_gives n t key call (Filed answer) es v e a = by_one call (Filed answer) es _ e tt
file_gives n t key call (Refused fault) es v e a = refused_gives n call fault es v (ends t (Refused_by fault)) e refl a
file_gives n t key call answer es v e a = absurd a

data_gives : (n : ℕ) (t : Talk) (key : Key) (call : Call) (answer : Answer) (es : List Event) (v : Verdict) → es ≡ one call answer → AfterData t key answer v → VerdictGives n es v
data_gives n t key call More es v e a = by_one call More es _ e tt
data_gives n t key call Whole_now es v e a = by_one call Whole_now es _ e tt
data_gives n t key call (Refused fault) es v e a = refused_gives n call fault es v (ends t (Refused_by fault)) e refl a
data_gives n t key call answer es v e a = absurd a

settle_gives : (n : ℕ) (t : Talk) (call : Call) (answer : Answer) (es : List Event) (v : Verdict) → es ≡ one call answer → AfterSettling t answer v → VerdictGives n es v
settle_gives n t call Settled es v e a = by_one call Settled es _ e tt
settle_gives n t call (Refused fault) es v e a = refused_gives n call fault es v (ends t (Refused_by fault)) e refl a
settle_gives n t call answer es v e a = absurd a

take_gives : (n : ℕ) (held : Option Part) (t : Talk) (message : Message) (es : List Event) (v : Verdict) → TakeRow held t message es v → VerdictGives n es v
take_gives n held t (File key offset) es v row = file_gives n t key _ row.answer es v row.asks row.then
take_gives n held t (DataMessage bytes) es v (Nothing_held none e a) = by_none es _ e
take_gives n held t (DataMessage bytes) es v (Drops p is taking e a) = by_none es _ e
take_gives n held t (DataMessage bytes) es v (Exceeds p is taking over e a) = by_none es _ e
take_gives n held t (DataMessage bytes) es v (Fits p is taking fits answer e a) = data_gives n t p.key _ answer es v e a
take_gives n held t EndMessage es v a = by_none es _ a.0
take_gives n held t (Got key) es v (Settles s is same answer e a) = settle_gives n t _ answer es v e a
take_gives n held t (Got key) es v (Passes_got other e a) = by_none es _ e
take_gives n held t (Get key offset) es v (Resends s is same within e a) = by_none es _ e
take_gives n held t (Get key offset) es v (Passes_get other e a) = by_none es _ e
take_gives n held t (Skip key) es v (Skips s is same answer e a) = settle_gives n t _ answer es v e a
take_gives n held t (Skip key) es v (Passes_skip other e a) = by_none es _ e

talk_gives : (n : ℕ) (t : Talk) (held : Option Part) (message : Message) (es : List Event) (r : Reply) → TalkRow n t held message es r → CallGives es (took_end r.took)
talk_gives n t held message es r row = subst (λ (x : Reply). CallGives es (took_end x.took)) (sym row.is) (take_gives n held t message es row.verdict row.row)

logged_gives : (n : ℕ) (t : Talk) (held : Option Part) (command : CommandText) (es : List Event) (r : Reply) → LoggedRow n t held command es r → CallGives es (took_end r.took)
logged_gives n t held (Nul text) es r row = plain_gives _ r es row
logged_gives n t held (Adr addresses) es r row = plain_gives _ r es row
logged_gives n t held (Pwd text) es r row = plain_gives _ r es row
logged_gives n t held (FileCommand key offset) es r row = talk_gives n t held _ es r row
logged_gives n t held (Accept text) es r row = plain_gives _ r es row
logged_gives n t held Eob es r row = talk_gives n t held _ es r row
logged_gives n t held (GotCommand key) es r row = talk_gives n t held _ es r row
logged_gives n t held (Error text) es r row = plain_gives _ r es row
logged_gives n t held (Bsy text) es r row = plain_gives _ r es row
logged_gives n t held (GetCommand key offset) es r row = talk_gives n t held _ es r row
logged_gives n t held (SkipCommand key) es r row = talk_gives n t held _ es r row
logged_gives n t held (Other number) es r row = plain_gives _ r es row

-- Frames.

command_gives : (s : Setting) (n : ℕ) (stage : Stage) (command : CommandText) (es : List Event) (r : Reply) → CommandRow s n stage command es r → CallGives es (took_end r.took)
command_gives s n (Logs_in at) command es r row = step_gives s n at _ (reply_to (terms_of s) at command).step es r row
command_gives s n (Talks t held) command es r row = logged_gives n t held command es r row

read_gives : (s : Setting) (n : ℕ) (stage : Stage) (read : Result CommandText ArgFault) (es : List Event) (r : Reply) → ReadRow s n stage read es r → CallGives es (took_end r.took)
read_gives s n stage (Ok command) es r row = command_gives s n stage command es r row
read_gives s n stage (Err fault) es r row = plain_gives _ r es row

data_row_gives : (n : ℕ) (stage : Stage) (bytes : List ℕ) (es : List Event) (r : Reply) → DataRow n stage bytes es r → CallGives es (took_end r.took)
data_row_gives n (Logs_in at) bytes es r row = plain_gives _ r es row
data_row_gives n (Talks t held) bytes es r row = talk_gives n t held _ es r row

pub row_gives : (s : Setting) (n : ℕ) (stage : Stage) (frame : FrameText) (es : List Event) (r : Reply) → Row s n stage frame es r → CallGives es (took_end r.took)
row_gives s n stage (Command number args) es r row = read_gives s n stage (command_of s.home number args) es r row
row_gives s n stage (Data bytes) es r row = data_row_gives n stage bytes es r row

pub knock_gives : (s : Setting) (answer : Answer) (r : Reply) → AfterKnock s answer r → AnswerGives answer (took_end r.took)
knock_gives s Let_in r a = tt
knock_gives s Busy r a = ap (λ (x : Reply). took_end x.took) a
knock_gives s (Refused fault) r a = ap (λ (x : Reply). took_end x.took) a
knock_gives s answer r a = absurd a

-- The own turn.

abbrev pub SendGives : List Event → Verdict → Type 0
SendGives es v = CallGives es (gave_end (outcome_gave v.outcome))

refused_sends : (call : Call) (fault : Fault) (es : List Event) (t : Talk) (v : Verdict) (w : SendVerdict) → es ≡ one call (Refused fault) → w ≡ Fails fault → AfterSend t v w → SendGives es v
refused_sends call fault es t v w e is a = go (subst (AfterSend t v) is a)
  where
    go : AfterSend t v (Fails fault) → SendGives es v
    go (Ends_by b) = subst (SendGives es) (sym b) (by_one call (Refused fault) es _ e refl)

read_sends : (block : ℕ) (s : Sending) (call : Call) (answer : Answer) (es : List Event) (t : Talk) (v : Verdict) (w : SendVerdict) → es ≡ one call answer → AfterRead block s answer w → AfterSend t v w → SendGives es v
read_sends block s call (Came bytes) es t v w e r a = by_one call (Came bytes) es _ e tt
read_sends block s call (Refused fault) es t v w e r a = refused_sends call fault es t v w e r a
read_sends block s call answer es t v w e r a = absurd r

offer_sends : (call : Call) (answer : Answer) (es : List Event) (t : Talk) (v : Verdict) (w : SendVerdict) → es ≡ one call answer → AfterOffer answer w → AfterSend t v w → SendGives es v
offer_sends call (Offered number key) es t v w e o a = by_one call (Offered number key) es _ e tt
offer_sends call Nothing es t v w e o a = by_one call Nothing es _ e tt
offer_sends call (Refused fault) es t v w e o a = refused_sends call fault es t v w e o a
offer_sends call answer es t v w e o a = absurd o

send_gives : (block : ℕ) (sending : Option Sending) (es : List Event) (t : Talk) (v : Verdict) (w : SendVerdict) → SendRow block sending es w → AfterSend t v w → SendGives es v
send_gives block sending es t v w (Reads s is some answer e r) a = read_sends block s _ answer es t v w e r a
send_gives block sending es t v w (Fills s is bare e r) a = by_none es _ e
send_gives block sending es t v w (Awaits s is bare all e r) a = by_none es _ e
send_gives block sending es t v w (Asks none answer e o) a = offer_sends _ answer es t v w e o a

verdict_gives : (block : ℕ) (held : Option Part) (t : Talk) (es : List Event) (v : Verdict) → TurnRow block held t es v → SendGives es v
verdict_gives block held t es v (Finishes is e a) = by_none es _ e
verdict_gives block held t es v (Rests is own e a) = by_none es _ e
verdict_gives block held t es v (GivesRow own w row a) = send_gives block t.sending es t v w row a

pub turn_gives : (block : ℕ) (stage : Stage) (es : List Event) (t : Turn) → GiveRow block stage es t → CallGives es (gave_end t.gave)
turn_gives block (Talks talk held) es t row = subst (λ (x : Turn). CallGives es (gave_end x.gave)) (sym row.is) (verdict_gives block held talk es row.verdict row.row)
turn_gives block (Logs_in at) es t row = by_none es _ row.0

-- The peer's words.

-- they end the session so, and nothing is said
abbrev pub WordGives : CommandText → Reply → Type 0
WordGives (Error text) r = (took_end r.took ≡ Some (E.PeerError text)) × (r.output ≡ [])
WordGives (Bsy text) r = (took_end r.took ≡ Some E.PeerBusy) × (r.output ≡ [])
WordGives said r = Unit {0}

ended_so : (end : End) (stage : Stage) (es : List Event) (r : Reply) → Plain (record { output = []; took = T.Ended end; stage = stage }) es r → (took_end r.took ≡ Some end) × (r.output ≡ [])
ended_so end stage es r p = (ap (λ (x : Reply). took_end x.took) p.1, ap (λ (x : Reply). x.output) p.1)

command_words : (s : Setting) (n : ℕ) (stage : Stage) (command : CommandText) (es : List Event) (r : Reply) → CommandRow s n stage command es r → WordGives command r
command_words s n (Logs_in (Awaits_address offer)) (Error text) es r p = ended_so (E.PeerError text) (Logs_in (Awaits_address offer)) es r p
command_words s n (Logs_in (Awaits_address offer)) (Bsy text) es r p = ended_so E.PeerBusy (Logs_in (Awaits_address offer)) es r p
command_words s n (Logs_in (Awaits_password peers)) (Error text) es r p = ended_so (E.PeerError text) (Logs_in (Awaits_password peers)) es r p
command_words s n (Logs_in (Awaits_password peers)) (Bsy text) es r p = ended_so E.PeerBusy (Logs_in (Awaits_password peers)) es r p
command_words s n (Logs_in (Awaits_word peers secure)) (Error text) es r p = ended_so (E.PeerError text) (Logs_in (Awaits_word peers secure)) es r p
command_words s n (Logs_in (Awaits_word peers secure)) (Bsy text) es r p = ended_so E.PeerBusy (Logs_in (Awaits_word peers secure)) es r p
command_words s n (Talks t held) (Error text) es r p = ended_so (E.PeerError text) (Talks t held) es r p
command_words s n (Talks t held) (Bsy text) es r p = ended_so E.PeerBusy (Talks t held) es r p
command_words s n stage command es r p = tt

read_words : (s : Setting) (n : ℕ) (stage : Stage) (read : Result CommandText ArgFault) (es : List Event) (r : Reply) (said : CommandText) → ReadRow s n stage read es r → read_as read ≡ Some said → WordGives said r
read_words s n stage (Ok command) es r said row e = let same : command ≡ said = cc in subst (λ (c : CommandText). WordGives c r) same (command_words s n stage command es r row)
read_words s n stage (Err fault) es r said row e = absurd (let clash : None ≡ Some said = e in cc)

pub row_words : (s : Setting) (n : ℕ) (stage : Stage) (frame : FrameText) (es : List Event) (r : Reply) (said : CommandText) → Row s n stage frame es r → said_by s.home frame ≡ Some said → WordGives said r
row_words s n stage (Command number args) es r said row e = read_words s n stage (command_of s.home number args) es r said row e
row_words s n stage (Data bytes) es r said row e = absurd (let clash : None ≡ Some said = e in cc)
