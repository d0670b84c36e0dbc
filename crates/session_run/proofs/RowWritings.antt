-- What each row leaves behind it, frame by frame and at the own turn.
use Rattle.std.proofs.Common.{◌≡◌, ◌⊎◌, ◌≤◌, ◌+◌, ◌∙◌, ℕ, length, Bool, true, false, List, [], ◌∷◌, Option, None, Result, Ok, Err, refl, sym, ap, subst, inl, inr, arith}
use Rattle.ftn_addr.specs.Address.{Address}
use Rattle.ftn_addr.specs.Frames.{FrameText, Command, Data}
use Rattle.ftn_addr.specs.Key.{Key}
use Rattle.ftn_addr.specs.declared.limits.TheConstants.{MAX_FRAME_DATA}
use Rattle.binkp_args.specs.Command.{CommandText, Nul, Adr, Pwd, File as FileCommand, Accept, Eob, Got as GotCommand, Error, Bsy, Get as GetCommand, Skip as SkipCommand, Other, command_of}
use Rattle.binkp_args.specs.declared.fault.ArgFault.{ArgFault}
use Rattle.node_model.specs.Lists.{Each}
use Rattle.node_model.specs.Calls.{Open_call, Knock_call, Offer_call, Answer, Let_in, Busy, Begun, Offered, Nothing, Came, Refused, Event, one}
use Rattle.node_model.specs.Talk.{Message, File, Data as DataMessage, Got, Get, Skip, End as EndMessage, Talk, Part, Sending, RowEnd, Finished, Out_of_turn, Too_late, Too_much, Refused_by, Outcome, Goes_on, Waits, Ends, Verdict, TakeRow, FileTaken, AfterFile, AfterData, AfterSettling, DataTaken, Nothing_held, Drops, Exceeds, Fits, GotTaken, Settles, Passes_got, SkipTaken, Skips, Passes_skip, GetTaken, Resends, Passes_get, SendVerdict, Fails, SendRow, Reads, Fills, Awaits, Asks, AfterRead, AfterOffer, AfterSend, Says, Fills_out, Awaits_answer, Says_end, Waits_for_end, Ends_by, TurnRow, Finishes, Rests, Gives as GivesRow}
use Rattle.node_model.specs.declared.words.Role.{Role}
use Rattle.session_auth.specs.Login.{Stage as LoginStage, Step, More as LoginMore, In, Bad_password, Peer_error, Peer_busy, Broke, reply_to}
use Rattle.session_auth.specs.Says.{said_bytes as login_bytes}
use Rattle.session_core.specs.Stages.{Setting, Stage, Logs_in, Talks, at_first}
use Rattle.session_core.specs.Says.{said_bytes, fault_bytes}
use Rattle.session_core.specs.Sessions.{Reply, Row, ReadRow, CommandRow, StepRow, LoggedRow, TalkRow, DataRow, AfterBegin, AfterKnock, Plain, terms_of, Turn, GiveRow}
use Rattle.session_run.proofs.HeldKeys.{part_key, keys_along, keys_of_along}
use Rattle.node_model.specs.Talk as M
use Rattle.node_model.specs.Talk.{under_way}
use Rattle.session_core.specs.Sessions.{turn_of}
use Rattle.session_run.proofs.FrameWritings.{own_end_at, Framed, SaysWell, AllQuiet, nothing, both, broken, ending, faulty, filled, many, none_quiet, one_quiet, outcome, saying, says_as, section, take_end, take_quiet, take_says}
use Rattle.session_run.proofs.LoginSteps.{IsWord, greeting_words, replies_well, words_framed}

abbrev pub stage_key : Stage → Option Key
stage_key (Talks talk held) = part_key held
stage_key stage = None

-- what a row writes, the file that is held behind it, and that it neither offers nor ends the batch
pub record Behind (before : Stage) (es : List Event) (r : Reply) : Type 0 where
  pub writes : Framed (stage_key before) es r.stage r.output
  pub holds : stage_key r.stage ≡ keys_along (stage_key before) es
  pub ends : own_end_at r.stage ≡ own_end_at before
  pub quiet : AllQuiet es

behind_as : (before : Stage) (es : List Event) (r q : Reply) → r ≡ q → Behind before es q → Behind before es r
behind_as before es r q e b = subst (Behind before es) (sym e) b

unasked : (before : Stage) (es : List Event) (reply r : Reply) → Framed (stage_key before) es reply.stage reply.output → stage_key reply.stage ≡ stage_key before → own_end_at reply.stage ≡ own_end_at before → Plain reply es r → Behind before es r
unasked before es reply r writes same ends (none, is) =
    behind_as before es r reply is (record { writes = writes; holds = same ∙ sym (ap (keys_along (stage_key before)) none); ends = ends; quiet = none_quiet es none })

-- a reply that leaves the session where it was before login
abbrev pub IsEarly : Stage → Type 0
IsEarly (Talks talk held) = ⊥
IsEarly stage = Unit {0}

early_key : (stage : Stage) → IsEarly stage → stage_key stage ≡ None
early_key (Logs_in at) i = refl
early_key (Talks talk held) i = absurd i

early_end : (stage : Stage) → IsEarly stage → own_end_at stage ≡ false
early_end (Logs_in at) i = refl
early_end (Talks talk held) i = absurd i

-- an early reply's frames
pub record Early (es : List Event) (reply : Reply) : Type 0 where
  pub writes : Framed None es reply.stage reply.output
  pub early : IsEarly reply.stage

early_behind : (before : Stage) (es : List Event) (reply r : Reply) → IsEarly before → Early es reply → Plain reply es r → Behind before es r
early_behind before es reply r i x p =
    unasked before es reply r (subst (λ (k : Option Key). Framed k es reply.stage reply.output) (sym (early_key before i)) x.writes) (early_key reply.stage x.early ∙ sym (early_key before i)) (early_end reply.stage x.early ∙ sym (early_end before i)) p

begin_behind : (s : Setting) (role : Role) (peers : List Address) (secure : Bool) (at : LoginStage) (said : List CommandText) (answer : Answer) (es : List Event) (r : Reply) → Each IsWord said → es ≡ one (Open_call role peers secure s.moment) answer → AfterBegin s.side at (login_bytes said) answer r → Behind (Logs_in at) es r
begin_behind s role peers secure at said (Begun number) es r words e a = behind_as (Logs_in at) es r _ a (record { writes = words_framed None es _ said words; holds = sym (ap (keys_along None) e); ends = refl; quiet = one_quiet es _ _ (λ h. cc) e })
begin_behind s role peers secure at said (Refused fault) es r words e a =
    behind_as (Logs_in at) es r _ a (record { writes = both None es _ (login_bytes said) (fault_bytes fault) (words_framed None es _ said words) (faulty None es _ fault); holds = sym (ap (keys_along None) e); ends = refl; quiet = one_quiet es _ _ (λ h. cc) e })
begin_behind s role peers secure at said answer es r words e a = absurd a

-- a step that asks the desk for nothing
step_early : (at : LoginStage) (said : List CommandText) (reply r : Reply) (es : List Event) → Each IsWord said → reply.output ≡ login_bytes said → IsEarly reply.stage → Plain reply es r → Behind (Logs_in at) es r
step_early at said reply r es words is early p =
    early_behind (Logs_in at) es reply r tt (record { writes = subst (Framed None es reply.stage) (sym is) (words_framed None es reply.stage said words); early = early }) p

step_behind : (s : Setting) (n : ℕ) (at : LoginStage) (said : List CommandText) (step : Step) (es : List Event) (r : Reply) → Each IsWord said → StepRow s n at (login_bytes said) step es r → Behind (Logs_in at) es r
step_behind s n at said (LoginMore stage) es r words p = step_early at said _ r es words refl tt p
step_behind s n at said (In peers secure) es r words row = begin_behind s _ peers secure at said row.answer es r words row.asks row.follows
step_behind s n at said (Bad_password wanted given) es r words p = step_early at said _ r es words refl tt p
step_behind s n at said (Peer_error text) es r words p = step_early at said _ r es words refl tt p
step_behind s n at said Peer_busy es r words p = step_early at said _ r es words refl tt p
step_behind s n at said (Broke fault) es r words p = step_early at said _ r es words refl tt p

talk_behind : (n : ℕ) (t : Talk) (part : Option Part) (message : Message) (es : List Event) (r : Reply) → TalkRow n t part message es r → Behind (Talks t part) es r
talk_behind n t part message es r row =
    behind_as (Talks t part) es r _ row.is (record {
      writes = both (part_key part) es _ _ _ (take_says part es _ t message row.verdict row.row) (outcome (part_key part) es _ row.verdict.outcome);
      holds = keys_of_along part es;
      ends = take_end part es t message row.verdict row.row;
      quiet = take_quiet part es t message row.verdict row.row;
    })

passed_behind : (t : Talk) (part : Option Part) (es : List Event) (reply r : Reply) → Framed (part_key part) es reply.stage reply.output → reply.stage ≡ Talks t part → Plain reply es r → Behind (Talks t part) es r
passed_behind t part es reply r writes same p = unasked (Talks t part) es reply r writes (ap stage_key same) (ap own_end_at same) p

logged_behind : (n : ℕ) (t : Talk) (part : Option Part) (command : CommandText) (es : List Event) (r : Reply) → LoggedRow n t part command es r → Behind (Talks t part) es r
logged_behind n t part (Nul text) es r p = passed_behind t part es _ r (nothing _ es _) refl p
logged_behind n t part (Adr addresses) es r p = passed_behind t part es _ r (nothing _ es _) refl p
logged_behind n t part (Pwd text) es r p = passed_behind t part es _ r (nothing _ es _) refl p
logged_behind n t part (FileCommand key offset) es r row = talk_behind n t part _ es r row
logged_behind n t part (Accept text) es r p = passed_behind t part es _ r (nothing _ es _) refl p
logged_behind n t part Eob es r row = talk_behind n t part _ es r row
logged_behind n t part (GotCommand key) es r row = talk_behind n t part _ es r row
logged_behind n t part (Error text) es r p = passed_behind t part es _ r (nothing _ es _) refl p
logged_behind n t part (Bsy text) es r p = passed_behind t part es _ r (nothing _ es _) refl p
logged_behind n t part (GetCommand key offset) es r row = talk_behind n t part _ es r row
logged_behind n t part (SkipCommand key) es r row = talk_behind n t part _ es r row
logged_behind n t part (Other number) es r p = passed_behind t part es _ r (nothing _ es _) refl p

command_behind : (s : Setting) (n : ℕ) (stage : Stage) (command : CommandText) (es : List Event) (r : Reply) → CommandRow s n stage command es r → Behind stage es r
command_behind s n (Logs_in at) command es r row = step_behind s n at _ (reply_to (terms_of s) at command).step es r (replies_well (terms_of s) at command).words row
command_behind s n (Talks t part) command es r row = logged_behind n t part command es r row

read_behind : (s : Setting) (n : ℕ) (stage : Stage) (read : Result CommandText ArgFault) (es : List Event) (r : Reply) → ReadRow s n stage read es r → Behind stage es r
read_behind s n stage (Ok command) es r row = command_behind s n stage command es r row
read_behind s n stage (Err fault) es r p = unasked stage es _ r (broken _ es _) refl refl p

data_behind : (n : ℕ) (stage : Stage) (bytes : List ℕ) (es : List Event) (r : Reply) → DataRow n stage bytes es r → Behind stage es r
data_behind n (Logs_in at) bytes es r p = unasked (Logs_in at) es _ r (broken _ es _) refl refl p
data_behind n (Talks t part) bytes es r row = talk_behind n t part _ es r row

pub row_behind : (s : Setting) (n : ℕ) (stage : Stage) (frame : FrameText) (es : List Event) (r : Reply) → Row s n stage frame es r → Behind stage es r
row_behind s n stage (Command number args) es r row = read_behind s n stage (command_of s.home number args) es r row
row_behind s n stage (Data bytes) es r row = data_behind n stage bytes es r row

pub knock_behind : (s : Setting) (role : Role) (answer : Answer) (r : Reply) → AfterKnock s answer r → Behind at_first (one (Knock_call role) answer) r
knock_behind s role Let_in r a = behind_as at_first _ r _ a (record { writes = words_framed None _ _ _ (greeting_words s.side s.conf s.challenge s.moment); holds = refl; ends = refl; quiet = (λ h. cc, tt) })
knock_behind s role Busy r a = behind_as at_first _ r _ a (record { writes = many None _ _; holds = refl; ends = refl; quiet = (λ h. cc, tt) })
knock_behind s role (Refused fault) r a = behind_as at_first _ r _ a (record { writes = faulty None _ _ fault; holds = refl; ends = refl; quiet = (λ h. cc, tt) })
knock_behind s role answer r a = absurd a

-- The own turn.

pub record TurnBehind (before : Stage) (es : List Event) (t : Turn) : Type 0 where
  pub writes : Framed (stage_key before) es t.stage t.output
  pub holds : stage_key t.stage ≡ keys_along (stage_key before) es
  pub ends : own_end_at before ≡ true → own_end_at t.stage ≡ true
  pub quiet : AllQuiet es ⊎ (own_end_at before ≡ false)

sent_message : {m n : Message} {s t : Sending} → M.Sent m s ≡ M.Sent n t → m ≡ n
sent_message {m} {n} {s} {t} e = cc

-- only an offer that found nothing leaves the sender empty
empty_offers : (block : ℕ) (sending : Option Sending) (es : List Event) → SendRow block sending es M.Empty → es ≡ one Offer_call Nothing
empty_offers block sending es (Reads s is some (Came l) e r) = absurd (let clash : M.Empty ≡ M.Sent (DataMessage l) (record s { place = s.place + length l }) = r.1 in cc)
empty_offers block sending es (Reads s is some (Refused fault) e r) = absurd (let clash : M.Empty ≡ Fails fault = r in cc)
empty_offers block sending es (Reads s is some answer e r) = absurd r
empty_offers block sending es (Fills s is bare e r) = absurd (let clash : M.Empty ≡ M.Filled (record s { bare = false }) = r in cc)
empty_offers block sending es (Awaits s is bare all e r) = absurd (let clash : M.Empty ≡ M.Waiting = r in cc)
empty_offers block sending es (Asks none Nothing e o) = e
empty_offers block sending es (Asks none (Offered number key) e o) = absurd (let clash : M.Empty ≡ M.Sent (File key 0) (under_way number key 0) = o in cc)
empty_offers block sending es (Asks none (Refused fault) e o) = absurd (let clash : M.Empty ≡ Fails fault = o in cc)
empty_offers block sending es (Asks none answer e o) = absurd o

-- a turn that asks and says nothing
turn_plain : (part : Option Part) (t : Talk) (es : List Event) (v w : Verdict) → v ≡ w → Framed (part_key part) es (Talks w.after part) (said_bytes w.said) → w.after ≡ t → es ≡ [] → TurnBehind (Talks t part) es (turn_of part v)
turn_plain part t es v w is says same none = subst (λ (x : Verdict). TurnBehind (Talks t part) es (turn_of part x)) (sym is) (record {
  writes = both _ es _ _ _ says (both _ es _ _ _ (filled _ es _ w.filled) (outcome _ es _ w.outcome));
  holds = sym (ap (keys_along (part_key part)) none);
  ends = λ h. ap (λ (x : Talk). x.own_end) same ∙ h;
  quiet = inl (none_quiet es none);
})

sent_says : (block : ℕ) (held : Option Key) (es : List Event) (part : Option Part) (t : Talk) (v : Verdict) (w : SendVerdict) → block ≤ MAX_FRAME_DATA → SendRow block t.sending es w → AfterSend t v w → SaysWell held es (Talks v.after part) v
sent_says block held es part t v w small row (Says {message} {sending} b) = go row
  where
    said : Framed held es (Talks v.after part) (said_bytes (message ∷ [])) → SaysWell held es (Talks v.after part) v
    said x = subst (λ (l : List Message). Framed held es (Talks v.after part) (said_bytes l)) (sym (ap (λ (y : Verdict). y.said) b)) x

    file : (key : Key) (offset : ℕ) → message ≡ File key offset → SaysWell held es (Talks v.after part) v
    file key offset e = said (subst (λ (m : Message). Framed held es (Talks v.after part) (said_bytes (m ∷ []))) (sym e) (saying held es _ (FileCommand key offset) (λ six. let clash : 3 ≡ 6 = six in cc) (λ five. let clash : 3 ≡ 5 = five in cc)))

    bytes : (l : List ℕ) → length l ≤ MAX_FRAME_DATA → message ≡ DataMessage l → SaysWell held es (Talks v.after part) v
    bytes l fits e = said (subst (λ (m : Message). Framed held es (Talks v.after part) (said_bytes (m ∷ []))) (sym e) (section held es _ l fits))

    read : (s : Sending) (answer : Answer) → AfterRead block s answer (M.Sent message sending) → SaysWell held es (Talks v.after part) v
    read s (Came l) (long, is) = bytes l (omega (arith, long, small)) (sent_message is)
    read s (Refused fault) is = absurd (let clash : M.Sent message sending ≡ Fails fault = is in cc)
    read s answer is = absurd is

    offer : (answer : Answer) → AfterOffer answer (M.Sent message sending) → SaysWell held es (Talks v.after part) v
    offer (Offered number key) is = file key 0 (sent_message is)
    offer Nothing is = absurd (let clash : M.Sent message sending ≡ M.Empty = is in cc)
    offer (Refused fault) is = absurd (let clash : M.Sent message sending ≡ Fails fault = is in cc)
    offer answer is = absurd is

    go : SendRow block t.sending es (M.Sent message sending) → SaysWell held es (Talks v.after part) v
    go (Reads s is some answer e r) = read s answer r
    go (Fills s is bare e r) = absurd (let clash : M.Sent message sending ≡ M.Filled (record s { bare = false }) = r in cc)
    go (Awaits s is bare all e r) = absurd (let clash : M.Sent message sending ≡ M.Waiting = r in cc)
    go (Asks none answer e o) = offer answer o
sent_says block held es part t v w small row (Fills_out b) = says_as held es _ v _ b (nothing held es _)
sent_says block held es part t v w small row (Awaits_answer b) = says_as held es _ v _ b (nothing held es _)
sent_says block held es part t v w small row (Says_end may b) = says_as held es _ v _ b (ending held es (Talks v.after part) (empty_offers block t.sending es row, ap (λ (x : Verdict). x.after.own_end) b))
sent_says block held es part t v w small row (Waits_for_end may b) = says_as held es _ v _ b (nothing held es _)
sent_says block held es part t v w small row (Ends_by b) = says_as held es _ v _ b (nothing held es _)

-- a step of the sender makes no call that changes what is held
send_keys : (block : ℕ) (sending : Option Sending) (es : List Event) (w : SendVerdict) (key : Option Key) → SendRow block sending es w → keys_along key es ≡ key
send_keys block sending es w key (Reads s is some answer e r) = ap (keys_along key) e
send_keys block sending es w key (Fills s is bare e r) = ap (keys_along key) e
send_keys block sending es w key (Awaits s is bare all e r) = ap (keys_along key) e
send_keys block sending es w key (Asks none answer e o) = ap (keys_along key) e

turn_verdict : (s : Setting) (part : Option Part) (t : Talk) (es : List Event) (v : Verdict) → s.block ≤ MAX_FRAME_DATA → TurnRow s.block part t es v → TurnBehind (Talks t part) es (turn_of part v)
turn_verdict s part t es v small (Finishes is e a) = turn_plain part t es v _ a (nothing _ es _) refl e
turn_verdict s part t es v small (Rests is own e a) = turn_plain part t es v _ a (nothing _ es _) refl e
turn_verdict s part t es v small (GivesRow own w row a) = record {
  writes = both _ es _ _ _ (sent_says s.block (part_key part) es part t v w small row a) (both _ es _ _ _ (filled _ es _ v.filled) (outcome _ es _ v.outcome));
  holds = sym (send_keys s.block t.sending es w (part_key part) row);
  ends = λ h. absurd (let clash : true ≡ false = sym h ∙ own in cc);
  quiet = inr own;
}

pub turn_behind : (s : Setting) (stage : Stage) (es : List Event) (t : Turn) → s.block ≤ MAX_FRAME_DATA → GiveRow s.block stage es t → TurnBehind stage es t
turn_behind s (Talks talk part) es t small row = subst (TurnBehind (Talks talk part) es) (sym row.is) (turn_verdict s part talk es row.verdict small row.row)
turn_behind s (Logs_in at) es t small row = subst (TurnBehind (Logs_in at) es) (sym row.1) (record { writes = nothing None es _; holds = sym (ap (keys_along None) row.0); ends = λ h. h; quiet = inl (none_quiet es row.0) })
