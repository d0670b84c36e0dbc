-- What rows do to the file under way: its entry and key stay, and it is settled at the peer's M_GOT of its key alone.
use Rattle.std.proofs.Common.{◌≡◌, ◌∙◌, ◌+◌, ℕ, length, false, List, [], ◌∷◌, Option, Some, None, Result, Ok, Err, refl, sym, ap, subst}
use Rattle.ftn_addr.specs.Frames.{FrameText, Command, Data}
use Rattle.ftn_addr.specs.Key.{Key}
use Rattle.binkp_args.specs.declared.fault.ArgFault.{ArgFault}
use Rattle.binkp_args.specs.Command.{CommandText, Nul, Adr, Pwd, File as FileCommand, Accept, Eob, Got as GotCommand, Error, Bsy, Get as GetCommand, Skip as SkipCommand, Other, command_of}
use Rattle.node_model.specs.Rows.{Have, Refuse, Elsewhere, Go, Whole, From, Late}
use Rattle.node_model.specs.Calls.{Call, Got_call, Offer_call, Answer, Let_in, Busy, Begun, Offered, Nothing, Came, Settled, Filed, More, Whole_now, Refused, Event, one}
use Rattle.node_model.specs.Talk as M
use Rattle.node_model.specs.Talk.{Message, File, Data as DataMessage, Got, Get, Skip, End as EndMessage, Talk, Part, Sending, under_way, Verdict, TakeRow, AfterFile, AfterData, AfterSettling, Nothing_held, Drops, Exceeds, Fits, Settles, Passes_got, Skips, Passes_skip, Resends, Passes_get, SendVerdict, SendRow, Reads, Fills, Awaits, Asks, AfterRead, AfterOffer, AfterSend, Says, Fills_out, Awaits_answer, Says_end, Waits_for_end, Ends_by, TurnRow, Finishes, Rests, Gives as GivesRow}
use Rattle.session_core.specs.Stages.{Setting, Stage, Logs_in, Talks}
use Rattle.session_auth.specs.Login.{Stage as LoginStage, Step, More as LoginMore, In, Bad_password, Peer_error, Peer_busy, Broke, reply_to}
use Rattle.session_auth.specs.Sides.{Side}
use Rattle.session_core.specs.Sessions.{Reply, Row, ReadRow, CommandRow, StepRow, LoggedRow, TalkRow, DataRow, AfterBegin, AfterKnock, Plain, terms_of, Turn, GiveRow}
use Rattle.session_run.proofs.Causes.{read_as, said_by}

abbrev pub sending_at : Stage → Option Sending
sending_at (Talks talk held) = talk.sending
sending_at stage = None

-- the file under way now is the one before, if one is
abbrev pub SameFile : Option Sending → Option Sending → Type 0
SameFile old None = Unit {0}
SameFile None (Some s) = ⊥
SameFile (Some r) (Some s) = (s.number ≡ r.number) × (s.key ≡ r.key)

same_file : (o : Option Sending) → SameFile o o
same_file None = tt
same_file (Some s) = (refl, refl)

same_as : (o p : Option Sending) → p ≡ o → SameFile o p
same_as o p e = subst (SameFile o) (sym e) (same_file o)

-- at most one call
abbrev pub Few : List Event → Type 0
Few [] = Unit {0}
Few (e ∷ []) = Unit {0}
Few (e ∷ f ∷ es) = ⊥

-- the peer said M_GOT of the file under way
pub record GotHere (said : Option CommandText) (before : Option Sending) (number : ℕ) : Type 0 where
  pub file : Sending
  pub is : before ≡ Some file
  pub numbered : file.number ≡ number
  pub says : said ≡ Some (GotCommand file.key)

pub record RowSends (said : Option CommandText) (before : Option Sending) (es : List Event) (after : Option Sending) : Type 0 where
  pub few : Few es
  pub same : SameFile before after
  pub got : (number : ℕ) → es ≡ one (Got_call number) Settled → GotHere said before number

sends_none : (said : Option CommandText) (before : Option Sending) (es : List Event) (after : Option Sending) → es ≡ [] → SameFile before after → RowSends said before es after
sends_none said before es after none same =
    record { few = subst Few (sym none) tt; same = same; got = λ number e. absurd (let clash : [] ≡ one (Got_call number) Settled = sym none ∙ e in cc) }

first_call : Call → List Event → Call
first_call call [] = call
first_call call (e ∷ es) = e.call

one_call : (a : Call) (x : Answer) (b : Call) (y : Answer) → one a x ≡ one b y → a ≡ b
unfolding first_call
one_call a x b y e = ap (first_call a) e

-- a call that settles nothing
pub no_got : (es : List Event) (call : Call) (answer : Answer) → ((number : ℕ) → call ≡ Got_call number → ⊥) → es ≡ one call answer → (number : ℕ) → es ≡ one (Got_call number) Settled → ⊥
no_got es call answer other is number e = other number (one_call call answer (Got_call number) Settled (sym is ∙ e))

sends_one : (said : Option CommandText) (before : Option Sending) (es : List Event) (after : Option Sending) (call : Call) (answer : Answer) → ((number : ℕ) → call ≡ Got_call number → ⊥) → es ≡ one call answer → SameFile before after → RowSends said before es after
sends_one said before es after call answer other is same =
    record { few = subst Few (sym is) tt; same = same; got = λ number e. absurd (no_got es call answer other is number e) }

-- Rows of a message.

settle_sends : (t : Talk) (answer : Answer) (v : Verdict) → AfterSettling t answer v → SameFile t.sending v.after.sending
settle_sends t Settled v a = subst (λ (x : Verdict). SameFile t.sending x.after.sending) (sym a) tt
settle_sends t (Refused fault) v a = same_as _ _ (ap (λ (x : Verdict). x.after.sending) a)
settle_sends t answer v a = absurd a

file_sends : (t : Talk) (key : Key) (answer : Answer) (v : Verdict) → AfterFile t key answer v → v.after.sending ≡ t.sending
file_sends t key (Filed Have) v a = ap (λ (x : Verdict). x.after.sending) a
file_sends t key (Filed Refuse) v a = ap (λ (x : Verdict). x.after.sending) a
file_sends t key (Filed Whole) v a = ap (λ (x : Verdict). x.after.sending) a
file_sends t key (Filed Elsewhere) v a = ap (λ (x : Verdict). x.after.sending) a
file_sends t key (Filed (From place)) v a = ap (λ (x : Verdict). x.after.sending) a
file_sends t key (Filed Go) v a = ap (λ (x : Verdict). x.after.sending) a
file_sends t key (Filed Late) v a = ap (λ (x : Verdict). x.after.sending) a
file_sends t key (Refused fault) v a = ap (λ (x : Verdict). x.after.sending) a
file_sends t key answer v a = absurd a

data_sends : (t : Talk) (key : Key) (answer : Answer) (v : Verdict) → AfterData t key answer v → v.after.sending ≡ t.sending
data_sends t key More v a = ap (λ (x : Verdict). x.after.sending) a
data_sends t key Whole_now v a = ap (λ (x : Verdict). x.after.sending) a
data_sends t key (Refused fault) v a = ap (λ (x : Verdict). x.after.sending) a
data_sends t key answer v a = absurd a

got_number : (a b : ℕ) (x : Answer) → one (Got_call a) x ≡ one (Got_call b) Settled → a ≡ b
got_number a b x e = same (one_call (Got_call a) x (Got_call b) Settled e)
  where
    same : Got_call a ≡ Got_call b → a ≡ b
    same h = cc

take_sends : (part : Option Part) (t : Talk) (message : Message) (es : List Event) (v : Verdict) (said : Option CommandText) → ((key : Key) → message ≡ Got key → said ≡ Some (GotCommand key)) → TakeRow part t message es v → RowSends said t.sending es v.after.sending
take_sends part t (File key offset) es v said says row = sends_one said _ es _ _ row.answer (λ number h. cc) row.asks (same_as _ _ (file_sends t key row.answer v row.then))
take_sends part t (DataMessage bytes) es v said says (Nothing_held none e a) = sends_none said _ es _ e (same_as _ _ (ap (λ (x : Verdict). x.after.sending) a))
take_sends part t (DataMessage bytes) es v said says (Drops p is taking e a) = sends_none said _ es _ e (same_as _ _ (ap (λ (x : Verdict). x.after.sending) a))
take_sends part t (DataMessage bytes) es v said says (Exceeds p is taking over e a) = sends_none said _ es _ e (same_as _ _ (ap (λ (x : Verdict). x.after.sending) a))
take_sends part t (DataMessage bytes) es v said says (Fits p is taking fits answer e a) = sends_one said _ es _ _ answer (λ number h. cc) e (same_as _ _ (data_sends t p.key answer v a))
take_sends part t (Got key) es v said says (Settles s is same answer e a) = record {
  few = subst Few (sym e) tt;
  same = settle_sends t answer v a;
  got = λ number h. record { file = s; is = is; numbered = got_number s.number number answer (sym e ∙ h); says = says key refl ∙ ap (λ (k : Key). Some (GotCommand k)) (sym same) };
}
take_sends part t (Got key) es v said says (Passes_got other e a) = sends_none said _ es _ e (same_as _ _ (ap (λ (x : Verdict). x.after.sending) a))
take_sends part t (Get key offset) es v said says (Resends s is same within e a) =
    sends_none said _ es _ e (subst (λ (o : Option Sending). SameFile o v.after.sending) (sym is) (subst (λ (x : Verdict). SameFile (Some s) x.after.sending) (sym a) (refl, refl)))
take_sends part t (Get key offset) es v said says (Passes_get other e a) = sends_none said _ es _ e (same_as _ _ (ap (λ (x : Verdict). x.after.sending) a))
take_sends part t (Skip key) es v said says (Skips s is same answer e a) = sends_one said _ es _ _ answer (λ number h. cc) e (settle_sends t answer v a)
take_sends part t (Skip key) es v said says (Passes_skip other e a) = sends_none said _ es _ e (same_as _ _ (ap (λ (x : Verdict). x.after.sending) a))
take_sends part t EndMessage es v said says row = sends_none said _ es _ row.0 (same_as _ _ (ap (λ (x : Verdict). x.after.sending) row.1))

-- Rows of a frame.

talk_sends : (n : ℕ) (t : Talk) (part : Option Part) (message : Message) (es : List Event) (r : Reply) (said : Option CommandText) → ((key : Key) → message ≡ Got key → said ≡ Some (GotCommand key)) → TalkRow n t part message es r → RowSends said t.sending es (sending_at r.stage)
talk_sends n t part message es r said says row = subst (λ (x : Reply). RowSends said t.sending es (sending_at x.stage)) (sym row.is) (take_sends part t message es row.verdict said says row.row)

plain_sends : (before : Option Sending) (reply r : Reply) (es : List Event) (said : Option CommandText) → SameFile before (sending_at reply.stage) → Plain reply es r → RowSends said before es (sending_at r.stage)
plain_sends before reply r es said same (none, is) = subst (λ (x : Reply). RowSends said before es (sending_at x.stage)) (sym is) (sends_none said before es _ none same)

-- a reply before login, after which no file is under way
abbrev pub Unsent : Reply → Type 0
Unsent reply = SameFile None (sending_at reply.stage)

begin_unsent : (side : Side) (at : LoginStage) (words : List ℕ) (answer : Answer) (r : Reply) → AfterBegin side at words answer r → Unsent r
begin_unsent side at words (Begun number) r a = subst Unsent (sym a) tt
begin_unsent side at words (Refused fault) r a = subst Unsent (sym a) tt
begin_unsent side at words answer r a = absurd a

login_sends : (s : Setting) (n : ℕ) (at : LoginStage) (words : List ℕ) (step : Step) (es : List Event) (r : Reply) (said : Option CommandText) → StepRow s n at words step es r → RowSends said None es (sending_at r.stage)
login_sends s n at words (LoginMore stage) es r said row = plain_sends None _ r es said tt row
login_sends s n at words (In peers secure) es r said row = sends_one said None es _ _ row.answer (λ number h. cc) row.asks (begin_unsent s.side at words row.answer r row.follows)
login_sends s n at words (Bad_password wanted given) es r said row = plain_sends None _ r es said tt row
login_sends s n at words (Peer_error text) es r said row = plain_sends None _ r es said tt row
login_sends s n at words Peer_busy es r said row = plain_sends None _ r es said tt row
login_sends s n at words (Broke fault) es r said row = plain_sends None _ r es said tt row

logged_sends : (n : ℕ) (t : Talk) (part : Option Part) (command : CommandText) (es : List Event) (r : Reply) → LoggedRow n t part command es r → RowSends (Some command) t.sending es (sending_at r.stage)
logged_sends n t part (Nul text) es r row = plain_sends t.sending _ r es _ (same_file t.sending) row
logged_sends n t part (Adr addresses) es r row = plain_sends t.sending _ r es _ (same_file t.sending) row
logged_sends n t part (Pwd text) es r row = plain_sends t.sending _ r es _ (same_file t.sending) row
logged_sends n t part (FileCommand key offset) es r row = talk_sends n t part _ es r _ (λ k e. absurd (let clash : File key offset ≡ Got k = e in cc)) row
logged_sends n t part (Accept text) es r row = plain_sends t.sending _ r es _ (same_file t.sending) row
logged_sends n t part Eob es r row = talk_sends n t part _ es r _ (λ k e. absurd (let clash : EndMessage ≡ Got k = e in cc)) row
logged_sends n t part (GotCommand key) es r row = talk_sends n t part _ es r _ (λ k e. let same : key ≡ k = cc in ap (λ (x : Key). Some (GotCommand x)) same) row
logged_sends n t part (Error text) es r row = plain_sends t.sending _ r es _ (same_file t.sending) row
logged_sends n t part (Bsy text) es r row = plain_sends t.sending _ r es _ (same_file t.sending) row
logged_sends n t part (GetCommand key offset) es r row = talk_sends n t part _ es r _ (λ k e. absurd (let clash : Get key offset ≡ Got k = e in cc)) row
logged_sends n t part (SkipCommand key) es r row = talk_sends n t part _ es r _ (λ k e. absurd (let clash : Skip key ≡ Got k = e in cc)) row
logged_sends n t part (Other number) es r row = plain_sends t.sending _ r es _ (same_file t.sending) row

command_sends : (s : Setting) (n : ℕ) (stage : Stage) (command : CommandText) (es : List Event) (r : Reply) → CommandRow s n stage command es r → RowSends (Some command) (sending_at stage) es (sending_at r.stage)
command_sends s n (Logs_in at) command es r row = login_sends s n at _ (reply_to (terms_of s) at command).step es r _ row
command_sends s n (Talks t part) command es r row = logged_sends n t part command es r row

read_sends : (s : Setting) (n : ℕ) (stage : Stage) (read : Result CommandText ArgFault) (es : List Event) (r : Reply) → ReadRow s n stage read es r → RowSends (read_as read) (sending_at stage) es (sending_at r.stage)
read_sends s n stage (Ok command) es r row = command_sends s n stage command es r row
read_sends s n stage (Err fault) es r row = plain_sends (sending_at stage) _ r es _ (same_file (sending_at stage)) row

data_frame_sends : (n : ℕ) (stage : Stage) (bytes : List ℕ) (es : List Event) (r : Reply) → DataRow n stage bytes es r → RowSends None (sending_at stage) es (sending_at r.stage)
data_frame_sends n (Logs_in at) bytes es r row = plain_sends None _ r es _ tt row
data_frame_sends n (Talks t part) bytes es r row = talk_sends n t part _ es r _ (λ k e. absurd (let clash : DataMessage bytes ≡ Got k = e in cc)) row

pub row_sends : (s : Setting) (n : ℕ) (stage : Stage) (frame : FrameText) (es : List Event) (r : Reply) → Row s n stage frame es r → RowSends (said_by s.home frame) (sending_at stage) es (sending_at r.stage)
row_sends s n stage (Command number args) es r row = read_sends s n stage (command_of s.home number args) es r row
row_sends s n stage (Data bytes) es r row = data_frame_sends n stage bytes es r row

pub knock_unsent : (s : Setting) (answer : Answer) (r : Reply) → AfterKnock s answer r → Unsent r
knock_unsent s Let_in r a = subst Unsent (sym a) tt
knock_unsent s Busy r a = subst Unsent (sym a) tt
knock_unsent s (Refused fault) r a = subst Unsent (sym a) tt
knock_unsent s answer r a = absurd a

-- The own turn.

-- the file under way after a turn: the one before, or one that its call offered
abbrev pub OfferedHere : List Event → Option Sending → Type 0
OfferedHere es None = Unit {0}
OfferedHere es (Some s) = es ≡ one Offer_call (Offered s.number s.key)

pub data TurnSends (before : Option Sending) (es : List Event) (after : Option Sending) : Type 0 where
  Same_one : SameFile before after → TurnSends before es after
  Offered_one : OfferedHere es after → TurnSends before es after

sent_file : {m n : Message} {s t : Sending} → M.Sent m s ≡ M.Sent n t → s ≡ t
sent_file {m} {n} {s} {t} e = cc

filled_file : {s t : Sending} → M.Filled s ≡ M.Filled t → s ≡ t
filled_file {s} {t} e = cc

-- the file that a step of the sender leaves under way
abbrev pub left_by : Option Sending → SendVerdict → Option Sending
left_by before (M.Sent message s) = Some s
left_by before (M.Filled s) = Some s
left_by before w = before

step_sends : (block : ℕ) (sending : Option Sending) (es : List Event) (w : SendVerdict) → SendRow block sending es w → TurnSends sending es (left_by sending w)
step_sends block sending es w (Reads s is some (Came l) e r) =
    Same_one (subst (λ (x : SendVerdict). SameFile sending (left_by sending x)) (sym r.1) (subst (λ (o : Option Sending). SameFile o (Some (record s { place = s.place + length l }))) (sym is) (refl, refl)))
step_sends block sending es w (Reads s is some (Refused fault) e r) = Same_one (subst (λ (x : SendVerdict). SameFile sending (left_by sending x)) (sym r) (same_file sending))
step_sends block sending es w (Reads s is some answer e r) = absurd r
step_sends block sending es w (Fills s is bare e r) =
    Same_one (subst (λ (x : SendVerdict). SameFile sending (left_by sending x)) (sym r) (subst (λ (o : Option Sending). SameFile o (Some (record s { bare = false }))) (sym is) (refl, refl)))
step_sends block sending es w (Awaits s is bare all e r) = Same_one (subst (λ (x : SendVerdict). SameFile sending (left_by sending x)) (sym r) (same_file sending))
step_sends block sending es w (Asks none (Offered number key) e o) = Offered_one (subst (λ (x : SendVerdict). OfferedHere es (left_by sending x)) (sym o) e)
step_sends block sending es w (Asks none Nothing e o) = Same_one (subst (λ (x : SendVerdict). SameFile sending (left_by sending x)) (sym o) (same_file sending))
step_sends block sending es w (Asks none (Refused fault) e o) = Same_one (subst (λ (x : SendVerdict). SameFile sending (left_by sending x)) (sym o) (same_file sending))
step_sends block sending es w (Asks none answer e o) = absurd o

send_leaves : (t : Talk) (v : Verdict) (w : SendVerdict) → AfterSend t v w → v.after.sending ≡ left_by t.sending w
send_leaves t v w (Says b) = ap (λ (x : Verdict). x.after.sending) b
send_leaves t v w (Fills_out b) = ap (λ (x : Verdict). x.after.sending) b
send_leaves t v w (Awaits_answer b) = ap (λ (x : Verdict). x.after.sending) b
send_leaves t v w (Says_end may b) = ap (λ (x : Verdict). x.after.sending) b
send_leaves t v w (Waits_for_end may b) = ap (λ (x : Verdict). x.after.sending) b
send_leaves t v w (Ends_by b) = ap (λ (x : Verdict). x.after.sending) b

-- a turn settles nothing
abbrev pub NoGot : List Event → Type 0
NoGot es = (number : ℕ) → es ≡ one (Got_call number) Settled → ⊥

step_got : (block : ℕ) (sending : Option Sending) (es : List Event) (w : SendVerdict) → SendRow block sending es w → Few es × NoGot es
step_got block sending es w (Reads s is some answer e r) = (subst Few (sym e) tt, no_got es _ answer (λ number h. cc) e)
step_got block sending es w (Fills s is bare e r) = (subst Few (sym e) tt, λ number h. let clash : [] ≡ one (Got_call number) Settled = sym e ∙ h in cc)
step_got block sending es w (Awaits s is bare all e r) = (subst Few (sym e) tt, λ number h. let clash : [] ≡ one (Got_call number) Settled = sym e ∙ h in cc)
step_got block sending es w (Asks none answer e o) = (subst Few (sym e) tt, no_got es _ answer (λ number h. cc) e)

pub record TurnSettles (before : Option Sending) (es : List Event) (after : Option Sending) : Type 0 where
  pub few : Few es
  pub got : NoGot es
  pub sends : TurnSends before es after

quiet_turn : (before : Option Sending) (es : List Event) (after : Option Sending) → es ≡ [] → after ≡ before → TurnSettles before es after
quiet_turn before es after none same =
    record { few = subst Few (sym none) tt; got = λ number h. (let clash : [] ≡ one (Got_call number) Settled = sym none ∙ h in cc); sends = Same_one (same_as before after same) }

verdict_settles : (block : ℕ) (part : Option Part) (t : Talk) (es : List Event) (v : Verdict) → TurnRow block part t es v → TurnSettles t.sending es v.after.sending
verdict_settles block part t es v (Finishes is e a) = quiet_turn t.sending es _ e (ap (λ (x : Verdict). x.after.sending) a)
verdict_settles block part t es v (Rests is own e a) = quiet_turn t.sending es _ e (ap (λ (x : Verdict). x.after.sending) a)
verdict_settles block part t es v (GivesRow own w row a) =
    let x = step_got block t.sending es w row in
    record { few = x.0; got = x.1; sends = subst (TurnSends t.sending es) (sym (send_leaves t v w a)) (step_sends block t.sending es w row) }

pub turn_settles : (block : ℕ) (stage : Stage) (es : List Event) (t : Turn) → GiveRow block stage es t → TurnSettles (sending_at stage) es (sending_at t.stage)
turn_settles block (Talks talk part) es t row = subst (λ (x : Turn). TurnSettles talk.sending es (sending_at x.stage)) (sym row.is) (verdict_settles block part talk es row.verdict row.row)
turn_settles block (Logs_in at) es t row = subst (λ (x : Turn). TurnSettles None es (sending_at x.stage)) (sym row.1) (quiet_turn None es None row.0 refl)
