-- The ends that rows give, and their causes.
use Rattle.std.proofs.Common.{◌≡◌, ◌⊎◌, ℕ, Bool, true, false, List, Option, Some, None, Result, Ok, Err, refl, sym, ap, subst, inl, inr}
use Rattle.ftn_addr.specs.Address.{Address}
use Rattle.ftn_addr.specs.Frames.{FrameText, Command, Data}
use Rattle.ftn_addr.specs.Key.{Key}
use Rattle.binkp_args.specs.declared.fault.ArgFault.{ArgFault}
use Rattle.binkp_args.specs.Command.{CommandText, Nul, Adr, Pwd, File as FileCommand, Accept, Eob, Got as GotCommand, Error, Bsy, Get as GetCommand, Skip as SkipCommand, Other, command_of}
use Rattle.node_model.specs.Rows.{Have, Refuse, Elsewhere, Go, Whole, From, Late}
use Rattle.node_model.specs.Calls.{Call, Offer_call, Read_call, Fault, Answer, Let_in, Busy, Begun, Offered, Nothing, Came, Settled, Filed, More, Whole_now, Refused, Event, one}
use Rattle.node_model.specs.Talk.{Message, File, Data as DataMessage, Got, Get, Skip, End as EndMessage, Talk, Part, Outcome, Verdict, TakeRow, AfterFile, AfterData, AfterSettling, Nothing_held, Drops, Exceeds, Fits, Settles, Passes_got, Skips, Passes_skip, Resends, Passes_get, is_finished, Sending, SendVerdict, Fails, SendRow, Reads, Fills, Awaits, Asks, AfterRead, AfterOffer, AfterSend, Says, Fills_out, Awaits_answer, Says_end, Waits_for_end, Ends_by, TurnRow, Finishes, Rests, Gives as GivesRow}
use Rattle.cram_md5.specs.Answer.{answer, is_answer}
use Rattle.session_auth.specs.Login.{Stage as LoginStage, Awaits_password, Step, More as LoginMore, In, Bad_password, Peer_error, Peer_busy, Broke, reply_to}
use Rattle.session_auth.specs.Passwords.{wanted_password}
use Rattle.session_auth.specs.Sides.{Side}
use Rattle.session_core.specs.Ends.{End}
use Rattle.session_core.specs.Ends as E
use Rattle.session_core.specs.Takings.{Took}
use Rattle.session_core.specs.Takings as T
use Rattle.session_core.specs.Givings.{Gave}
use Rattle.session_core.specs.Givings as G
use Rattle.session_core.specs.Stages.{Setting, Stage, Logs_in, Talks}
use Rattle.session_core.specs.Sessions.{Reply, Row, ReadRow, CommandRow, StepRow, LoggedRow, TalkRow, DataRow, AfterBegin, AfterKnock, Plain, terms_of, fault_end, outcome_took, outcome_gave, Said, Gives, Turn, GiveRow}
use Rattle.session_run.proofs.LoginSteps.{StepCause, replies_well}

-- what a row met: the number of the peer's frame and what it says, where it is a command that was read; whether both sides
-- are done at an own turn
pub record Met : Type 0 where
  pub setting : Setting
  pub number : Option ℕ
  pub stage : Stage
  pub said : Option CommandText
  pub done : Bool

-- no frame, as at the first turn
abbrev pub no_frame : Setting → Stage → Met
no_frame s stage = record { setting = s; number = None; stage = stage; said = None; done = false }

abbrev pub done_at : Stage → Bool
done_at (Talks talk held) = is_finished talk held
done_at stage = false

abbrev pub own_turn : Setting → Stage → Met
own_turn s stage = record { setting = s; number = None; stage = stage; said = None; done = done_at stage }

abbrev pub read_as : Result CommandText ArgFault → Option CommandText
read_as (Ok command) = Some command
read_as (Err fault) = None

abbrev pub said_by : Address → FrameText → Option CommandText
said_by home (Command number args) = read_as (command_of home number args)
said_by home (Data bytes) = None

-- the frame with that number
abbrev pub met_by : Setting → ℕ → Stage → Option CommandText → Met
met_by s n stage said = record { setting = s; number = Some n; stage = stage; said = said; done = false }

-- a password that is no answer, at a login that waits for it
pub record Unwanted (m : Met) (wanted given : List ℕ) : Type 0 where
  pub peers : List Address
  pub waits : m.stage ≡ Logs_in (Awaits_password peers)
  pub password : List ℕ
  pub has : wanted_password m.setting.conf peers ≡ Some password
  pub answers : wanted ≡ answer password m.setting.challenge
  pub other : is_answer password m.setting.challenge given ≡ false
  pub says : m.said ≡ Some (Pwd given)

-- the ends that a row gives without another object
abbrev pub Plain_end : Met → End → Type 0
Plain_end m E.Finished = m.done ≡ true
Plain_end m (E.PeerError text) = m.said ≡ Some (Error text)
Plain_end m E.PeerBusy = (text : List ℕ) × (m.said ≡ Some (Bsy text))
Plain_end m (E.BadPassword wanted given) = Unwanted m wanted given
Plain_end m (E.Broke cause n) = m.number ≡ Some n
Plain_end m E.NoMemory = Unit {0}
Plain_end m _ = ⊥

-- a refusal of the desk gives that end
abbrev pub Refused_end : End → List Event → Type 0
Refused_end end es = (call : Call) × (fault : Fault) × (es ≡ one call (Refused fault)) × (end ≡ fault_end fault)

-- so does a caller that is turned away
abbrev pub Away_end : End → List Event → Type 0
Away_end end es = (call : Call) × (es ≡ one call Busy) × (end ≡ E.TurnedAway)

abbrev pub EndedBy : Met → End → List Event → Type 0
EndedBy m end es = Plain_end m end ⊎ (Refused_end end es ⊎ Away_end end es)

abbrev pub RowCause : Met → Took → List Event → Type 0
RowCause m T.More es = Unit {0}
RowCause m (T.Ended end) es = EndedBy m end es

abbrev pub TurnCause : Met → Gave → List Event → Type 0
TurnCause m G.Sent es = Unit {0}
TurnCause m G.Waits es = Unit {0}
TurnCause m (G.Ended end) es = EndedBy m end es

abbrev pub Plain_took : Met → Took → Type 0
Plain_took m T.More = Unit {0}
Plain_took m (T.Ended end) = Plain_end m end

from_plain : (m : Met) (took : Took) (es : List Event) → Plain_took m took → RowCause m took es
from_plain m T.More es p = tt
from_plain m (T.Ended end) es p = inl p

plain_cause : (m : Met) (reply r : Reply) (es : List Event) → Plain_took m reply.took → Plain reply es r → RowCause m r.took es
plain_cause m reply r es p plain = subst (λ (x : Reply). RowCause m x.took es) (sym plain.1) (from_plain m reply.took es p)

reply_cause : (m : Met) (reply r : Reply) (es : List Event) → RowCause m reply.took es → r ≡ reply → RowCause m r.took es
reply_cause m reply r es p e = subst (λ (x : Reply). RowCause m x.took es) (sym e) p

-- The login.

begin_cause : (m : Met) (side : Side) (at : LoginStage) (said : List ℕ) (call : Call) (answer : Answer) (es : List Event) (r : Reply) → es ≡ one call answer → AfterBegin side at said answer r → RowCause m r.took es
begin_cause m side at said call (Begun number) es r e a = reply_cause m _ r es tt a
begin_cause m side at said call (Refused fault) es r e a = reply_cause m _ r es (inr (inl (call, fault, e, refl))) a
begin_cause m side at said call answer es r e a = absurd a

step_cause : (s : Setting) (n : ℕ) (at : LoginStage) (said : List ℕ) (command : CommandText) (step : Step) (es : List Event) (r : Reply) → StepCause (terms_of s) at command step → StepRow s n at said step es r → RowCause (met_by s n (Logs_in at) (Some command)) r.took es
step_cause s n at said command (LoginMore stage) es r c row = plain_cause _ _ r es tt row
step_cause s n at said command (In peers secure) es r c row = begin_cause _ s.side at said _ row.answer es r row.asks row.follows
step_cause s n at said command (Bad_password wanted given) es r c row =
    plain_cause _ _ r es (record { peers = c.peers; waits = ap Logs_in c.waits; password = c.password; has = c.has; answers = c.answers; other = c.other; says = ap (λ (x : CommandText). Some x) c.says }) row
step_cause s n at said command (Peer_error text) es r c row = plain_cause _ _ r es (ap (λ (x : CommandText). Some x) c) row
step_cause s n at said command Peer_busy es r c row = plain_cause _ _ r es (c.0, ap (λ (x : CommandText). Some x) c.1) row
step_cause s n at said command (Broke fault) es r c row = plain_cause _ _ r es refl row

-- After login.

-- the outcome of a row over the message of that frame
abbrev pub OutcomeCause : Met → ℕ → Outcome → List Event → Type 0
OutcomeCause m n outcome es = RowCause m (outcome_took n outcome) es

verdict_cause : (m : Met) (n : ℕ) (v w : Verdict) (es : List Event) → OutcomeCause m n w.outcome es → v ≡ w → OutcomeCause m n v.outcome es
verdict_cause m n v w es p e = subst (λ (x : Verdict). OutcomeCause m n x.outcome es) (sym e) p

file_cause : (m : Met) (n : ℕ) (t : Talk) (key : Key) (call : Call) (answer : Answer) (es : List Event) (v : Verdict) → m.number ≡ Some n → es ≡ one call answer → AfterFile t key answer v → OutcomeCause m n v.outcome es
file_cause m n t key call (Filed Have) es v i e a = verdict_cause m n v _ es tt a
file_cause m n t key call (Filed Refuse) es v i e a = verdict_cause m n v _ es tt a
file_cause m n t key call (Filed Whole) es v i e a = verdict_cause m n v _ es tt a
file_cause m n t key call (Filed Elsewhere) es v i e a = verdict_cause m n v _ es tt a
file_cause m n t key call (Filed (From place)) es v i e a = verdict_cause m n v _ es tt a
file_cause m n t key call (Filed Go) es v i e a = verdict_cause m n v _ es tt a
file_cause m n t key call (Filed Late) es v i e a = verdict_cause m n v _ es (inl i) a
file_cause m n t key call (Refused fault) es v i e a = verdict_cause m n v _ es (inr (inl (call, fault, e, refl))) a
file_cause m n t key call answer es v i e a = absurd a

data_cause : (m : Met) (n : ℕ) (t : Talk) (key : Key) (call : Call) (answer : Answer) (es : List Event) (v : Verdict) → es ≡ one call answer → AfterData t key answer v → OutcomeCause m n v.outcome es
data_cause m n t key call More es v e a = verdict_cause m n v _ es tt a
data_cause m n t key call Whole_now es v e a = verdict_cause m n v _ es tt a
data_cause m n t key call (Refused fault) es v e a = verdict_cause m n v _ es (inr (inl (call, fault, e, refl))) a
data_cause m n t key call answer es v e a = absurd a

settle_cause : (m : Met) (n : ℕ) (t : Talk) (call : Call) (answer : Answer) (es : List Event) (v : Verdict) → es ≡ one call answer → AfterSettling t answer v → OutcomeCause m n v.outcome es
settle_cause m n t call Settled es v e a = verdict_cause m n v _ es tt a
settle_cause m n t call (Refused fault) es v e a = verdict_cause m n v _ es (inr (inl (call, fault, e, refl))) a
settle_cause m n t call answer es v e a = absurd a

take_cause : (m : Met) (n : ℕ) (held : Option Part) (t : Talk) (message : Message) (es : List Event) (v : Verdict) → m.number ≡ Some n → TakeRow held t message es v → OutcomeCause m n v.outcome es
take_cause m n held t (File key offset) es v i row = file_cause m n t key _ row.answer es v i row.asks row.then
take_cause m n held t (DataMessage bytes) es v i (Nothing_held none e a) = verdict_cause m n v _ es tt a
take_cause m n held t (DataMessage bytes) es v i (Drops p is taking e a) = verdict_cause m n v _ es tt a
take_cause m n held t (DataMessage bytes) es v i (Exceeds p is taking over e a) = verdict_cause m n v _ es (inl i) a
take_cause m n held t (DataMessage bytes) es v i (Fits p is taking fits answer e a) = data_cause m n t p.key _ answer es v e a
take_cause m n held t EndMessage es v i a = verdict_cause m n v _ es tt a.1
take_cause m n held t (Got key) es v i (Settles s is same answer e a) = settle_cause m n t _ answer es v e a
take_cause m n held t (Got key) es v i (Passes_got other e a) = verdict_cause m n v _ es tt a
take_cause m n held t (Get key offset) es v i (Resends s is same within e a) = verdict_cause m n v _ es tt a
take_cause m n held t (Get key offset) es v i (Passes_get other e a) = verdict_cause m n v _ es tt a
take_cause m n held t (Skip key) es v i (Skips s is same answer e a) = settle_cause m n t _ answer es v e a
take_cause m n held t (Skip key) es v i (Passes_skip other e a) = verdict_cause m n v _ es tt a

talk_cause : (m : Met) (n : ℕ) (t : Talk) (held : Option Part) (message : Message) (es : List Event) (r : Reply) → m.number ≡ Some n → TalkRow n t held message es r → RowCause m r.took es
talk_cause m n t held message es r i row = reply_cause m _ r es (take_cause m n held t message es row.verdict i row.row) row.is

logged_cause : (s : Setting) (n : ℕ) (t : Talk) (held : Option Part) (command : CommandText) (es : List Event) (r : Reply) → LoggedRow n t held command es r → RowCause (met_by s n (Talks t held) (Some command)) r.took es
logged_cause s n t held (Nul text) es r row = plain_cause _ _ r es tt row
logged_cause s n t held (Adr addresses) es r row = plain_cause _ _ r es tt row
logged_cause s n t held (Pwd text) es r row = plain_cause _ _ r es tt row
logged_cause s n t held (FileCommand key offset) es r row = talk_cause _ n t held _ es r refl row
logged_cause s n t held (Accept text) es r row = plain_cause _ _ r es tt row
logged_cause s n t held Eob es r row = talk_cause _ n t held _ es r refl row
logged_cause s n t held (GotCommand key) es r row = talk_cause _ n t held _ es r refl row
logged_cause s n t held (Error text) es r row = plain_cause _ _ r es refl row
logged_cause s n t held (Bsy text) es r row = plain_cause _ _ r es (text, refl) row
logged_cause s n t held (GetCommand key offset) es r row = talk_cause _ n t held _ es r refl row
logged_cause s n t held (SkipCommand key) es r row = talk_cause _ n t held _ es r refl row
logged_cause s n t held (Other number) es r row = plain_cause _ _ r es tt row

-- Frames.

command_cause : (s : Setting) (n : ℕ) (stage : Stage) (command : CommandText) (es : List Event) (r : Reply) → CommandRow s n stage command es r → RowCause (met_by s n stage (Some command)) r.took es
command_cause s n (Logs_in at) command es r row = step_cause s n at _ command (reply_to (terms_of s) at command).step es r (replies_well (terms_of s) at command).cause row
command_cause s n (Talks t held) command es r row = logged_cause s n t held command es r row

read_cause : (s : Setting) (n : ℕ) (stage : Stage) (read : Result CommandText ArgFault) (es : List Event) (r : Reply) → ReadRow s n stage read es r → RowCause (met_by s n stage (read_as read)) r.took es
read_cause s n stage (Ok command) es r row = command_cause s n stage command es r row
read_cause s n stage (Err fault) es r row = plain_cause _ _ r es refl row

data_row_cause : (s : Setting) (n : ℕ) (stage : Stage) (bytes : List ℕ) (es : List Event) (r : Reply) → DataRow n stage bytes es r → RowCause (met_by s n stage None) r.took es
data_row_cause s n (Logs_in at) bytes es r row = plain_cause _ _ r es refl row
data_row_cause s n (Talks t held) bytes es r row = talk_cause _ n t held _ es r refl row

pub row_cause : (s : Setting) (n : ℕ) (stage : Stage) (frame : FrameText) (es : List Event) (r : Reply) → Row s n stage frame es r → RowCause (met_by s n stage (said_by s.home frame)) r.took es
row_cause s n stage (Command number args) es r row = read_cause s n stage (command_of s.home number args) es r row
row_cause s n stage (Data bytes) es r row = data_row_cause s n stage bytes es r row

pub said_cause : (m : Met) (output : List ℕ) (goal : Took) (written : List ℕ) (took : Took) (es : List Event) → RowCause m goal es → Said output goal written took → RowCause m took es
said_cause m output goal written took es c (inl s) = subst (λ (x : Took). RowCause m x es) (sym s.0) c
said_cause m output goal written took es c (inr s) = subst (λ (x : Took). RowCause m x es) (sym s.0) (inl tt)

pub knock_cause : (m : Met) (s : Setting) (call : Call) (answer : Answer) (r : Reply) → AfterKnock s answer r → RowCause m r.took (one call answer)
knock_cause m s call Let_in r a = reply_cause m _ r _ tt a
knock_cause m s call Busy r a = reply_cause m _ r _ (inr (inr (call, refl, refl))) a
knock_cause m s call (Refused fault) r a = reply_cause m _ r _ (inr (inl (call, fault, refl, refl))) a
knock_cause m s call answer r a = absurd a

-- The own turn.

-- a refusal ends a turn
refused_turn : (m : Met) (call : Call) (fault : Fault) (es : List Event) (t : Talk) (v : Verdict) (w : SendVerdict) → es ≡ one call (Refused fault) → w ≡ Fails fault → AfterSend t v w → TurnCause m (outcome_gave v.outcome) es
refused_turn m call fault es t v w e is a = go (subst (AfterSend t v) is a)
  where
    go : AfterSend t v (Fails fault) → TurnCause m (outcome_gave v.outcome) es
    go (Ends_by b) = subst (λ (x : Verdict). TurnCause m (outcome_gave x.outcome) es) (sym b) (inr (inl (call, fault, e, refl)))

-- what the sender did, but for a refusal, ends no turn
abbrev pub Is_on : SendVerdict → Type 0
Is_on (Fails fault) = ⊥
Is_on w = Unit {0}

turn_on : (m : Met) (es : List Event) (t : Talk) (v : Verdict) (w : SendVerdict) → Is_on w → AfterSend t v w → TurnCause m (outcome_gave v.outcome) es
turn_on m es t v w i (Says b) = subst (λ (x : Verdict). TurnCause m (outcome_gave x.outcome) es) (sym b) tt
turn_on m es t v w i (Fills_out b) = subst (λ (x : Verdict). TurnCause m (outcome_gave x.outcome) es) (sym b) tt
turn_on m es t v w i (Awaits_answer b) = subst (λ (x : Verdict). TurnCause m (outcome_gave x.outcome) es) (sym b) tt
turn_on m es t v w i (Says_end may b) = subst (λ (x : Verdict). TurnCause m (outcome_gave x.outcome) es) (sym b) tt
turn_on m es t v w i (Waits_for_end may b) = subst (λ (x : Verdict). TurnCause m (outcome_gave x.outcome) es) (sym b) tt
turn_on m es t v w i (Ends_by b) = absurd i

read_turn : (m : Met) (block : ℕ) (s : Sending) (answer : Answer) (es : List Event) (t : Talk) (v : Verdict) (w : SendVerdict) → es ≡ one (Read_call s.place block) answer → AfterRead block s answer w → AfterSend t v w → TurnCause m (outcome_gave v.outcome) es
read_turn m block s (Came bytes) es t v w e r a = turn_on m es t v w (subst Is_on (sym r.1) tt) a
read_turn m block s (Refused fault) es t v w e r a = refused_turn m _ fault es t v w e r a
read_turn m block s answer es t v w e r a = absurd r

offer_turn : (m : Met) (answer : Answer) (es : List Event) (t : Talk) (v : Verdict) (w : SendVerdict) → es ≡ one Offer_call answer → AfterOffer answer w → AfterSend t v w → TurnCause m (outcome_gave v.outcome) es
offer_turn m (Offered number key) es t v w e o a = turn_on m es t v w (subst Is_on (sym o) tt) a
offer_turn m Nothing es t v w e o a = turn_on m es t v w (subst Is_on (sym o) tt) a
offer_turn m (Refused fault) es t v w e o a = refused_turn m _ fault es t v w e o a
offer_turn m answer es t v w e o a = absurd o

send_turn : (m : Met) (block : ℕ) (sending : Option Sending) (es : List Event) (t : Talk) (v : Verdict) (w : SendVerdict) → SendRow block sending es w → AfterSend t v w → TurnCause m (outcome_gave v.outcome) es
send_turn m block sending es t v w (Reads s is some answer e r) a = read_turn m block s answer es t v w e r a
send_turn m block sending es t v w (Fills s is bare e r) a = turn_on m es t v w (subst Is_on (sym r) tt) a
send_turn m block sending es t v w (Awaits s is bare all e r) a = turn_on m es t v w (subst Is_on (sym r) tt) a
send_turn m block sending es t v w (Asks none answer e o) a = offer_turn m answer es t v w e o a

verdict_turn : (s : Setting) (block : ℕ) (held : Option Part) (t : Talk) (es : List Event) (v : Verdict) → TurnRow block held t es v → TurnCause (own_turn s (Talks v.after held)) (outcome_gave v.outcome) es
verdict_turn s block held t es v (Finishes is e a) = subst (λ (x : Verdict). TurnCause (own_turn s (Talks x.after held)) (outcome_gave x.outcome) es) (sym a) (inl is)
verdict_turn s block held t es v (Rests is own e a) = subst (λ (x : Verdict). TurnCause (own_turn s (Talks x.after held)) (outcome_gave x.outcome) es) (sym a) tt
verdict_turn s block held t es v (GivesRow own w row a) = send_turn (own_turn s (Talks v.after held)) block t.sending es t v w row a

pub turn_cause : (s : Setting) (stage : Stage) (es : List Event) (t : Turn) → GiveRow s.block stage es t → TurnCause (own_turn s t.stage) t.gave es
turn_cause s (Talks talk held) es t row = subst (λ (x : Turn). TurnCause (own_turn s x.stage) x.gave es) (sym row.is) (verdict_turn s s.block held talk es row.verdict row.row)
turn_cause s (Logs_in at) es t row = subst (λ (x : Turn). TurnCause (own_turn s x.stage) x.gave es) (sym row.1) tt

pub gives_cause : (m : Met) (output : List ℕ) (goal : Gave) (written : List ℕ) (gave : Gave) (es : List Event) → TurnCause m goal es → Gives output goal written gave → TurnCause m gave es
gives_cause m output goal written gave es c (inl s) = subst (λ (x : Gave). TurnCause m x es) (sym s.0) c
gives_cause m output goal written gave es c (inr s) = subst (λ (x : Gave). TurnCause m x es) (sym s.0) (inl tt)
