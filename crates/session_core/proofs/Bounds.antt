-- What a frame of the peer's makes a session write is short.
use Rattle.std.proofs.Common.{◌≡◌, ℕ, ◌+◌, ◌≤◌, Bool, true, false, List, [], ◌∷◌, codes, length, Option, Some, None, Result, Ok, Err, refl, ap, subst, inl, inr, arith, length-append}
use Rattle.std.proofs.lemmas.Bool.{cases_Bool}
use Rattle.ftn_addr.specs.Address.{Address}
use Rattle.ftn_addr.specs.Frames.{FrameText, Command as CommandFrame, Data as DataFrame}
use Rattle.ftn_addr.specs.Key.{Key}
use Rattle.ftn_addr.specs.Limits.{IsKey}
use Rattle.binkp_args.specs.Command.{CommandText, Nul, Adr, Pwd, File as FileCommand, Accept, Eob, Got as GotCommand, Error, Bsy, Get as GetCommand, Skip as SkipCommand, Other, command_of}
use Rattle.binkp_args.specs.Limits.{HasFile}
use Rattle.binkp_args.specs.declared.fault.ArgFault.{ArgFault}
use Rattle.binkp_args.proofs.Fits.{key_short, place_short}
use Rattle.binkp_args.proofs.ReadLimits.{command_limits}
use Rattle.cram_md5.specs.Answer.{is_answer}
use Rattle.cram_md5.specs.Offer.{Offered}
use Rattle.node_model.specs.Calls.{Fault, Disk, Read, Full, No_memory, Answer, Begun, Filed, More, Whole_now, Settled, Refused, Event}
use Rattle.node_model.specs.Images.{Stand}
use Rattle.node_model.specs.Rows.{Have, Refuse, Elsewhere, Go, Whole, From, Late}
use Rattle.node_model.specs.Talk.{Message, File, Data, Got, Get, Skip, End as EndMessage, Talk, Part, Finished, Out_of_turn, Too_late, Too_much, Refused_by, Outcome, Goes_on, Waits, Ends, Verdict, TakeRow, AfterFile, AfterData, AfterSettling, Nothing_held, Drops, Exceeds, Fits, Settles, Passes_got, Skips, Passes_skip, Resends, Passes_get}
use Rattle.session_auth.specs.Login.{Terms, Stage as LoginStage, Awaits_address, Awaits_password, Awaits_word, Step, More as LoginMore, In, Bad_password, Peer_error, Peer_busy, Broke, anywhere, before_address, before_password, before_word, early_password, early_word, enters, judged, met, named, reply_to}
use Rattle.session_auth.specs.Passwords.{is_among, password_for, wanted_password, without_own}
use Rattle.session_auth.specs.Says.{said_bytes as login_bytes}
use Rattle.session_auth.specs.Sides.{Side, Answers, Calls}
use Rattle.session_auth.proofs.Shorts.{spoken_short}
use Rattle.session_recv.specs.Replies.{command_bytes, held_in}
use Rattle.session_recv.specs.declared.holding.Holding.{Holding}
use Rattle.session_recv.specs.declared.holding.Holding.TheVariants as H
use Rattle.session_core.specs.declared.ending.Cause.{Cause}
use Rattle.session_core.specs.declared.ending.Cause.TheVariants as C
use Rattle.session_core.specs.declared.session.Session.{Session}
use Rattle.session_core.specs.declared.stage.Stage.{Stage as CodeStage}
use Rattle.session_core.specs.declared.stage.Stage.TheVariants as K
use Rattle.session_core.specs.Takings.{Took}
use Rattle.session_core.specs.Says.{message_bytes, said_bytes, broken_frame, offset_again, not_called, disk_fault, ledger_full, cause_bytes, fault_bytes}
use Rattle.session_core.specs.Stages.{Setting, Stage, Logs_in, Talks, Told}
use Rattle.session_core.specs.Sessions.{AfterBegin, CommandRow, DataRow, LoggedRow, ReadRow, Reply, Row, Said, StepRow, TalkRow, outcome_bytes, terms_of}
use Rattle.session_core.specs.Replies.{MadeRow, Writes, stage_in, stage_with}

-- Frames.

error_short : (text : List ℕ) → length text ≤ 22 → length (command_bytes (Error text)) ≤ 25
error_short text short = omega arith

broken_short : length broken_frame ≤ 25
unfolding broken_frame
broken_short = error_short (codes "broken frame") (omega arith)

again_short : length offset_again ≤ 25
unfolding offset_again
again_short = error_short (codes "offset again") (omega arith)

not_called_short : length not_called ≤ 25
unfolding not_called
not_called_short = error_short (codes "not the called address") (omega arith)

disk_short : length disk_fault ≤ 25
unfolding disk_fault
disk_short = error_short (codes "disk fault") (omega arith)

full_short : length ledger_full ≤ 25
unfolding ledger_full
full_short = error_short (codes "ledger full") (omega arith)

cause_short : (cause : Cause) → length (cause_bytes cause) ≤ 25
cause_short C.Late = again_short
cause_short (C.Arg fault) = broken_short
cause_short C.OutOfTurn = broken_short
cause_short C.NotCalled = not_called_short
cause_short C.TooMuch = broken_short

pub fault_short : (fault : Fault) → length (fault_bytes fault) ≤ 25
fault_short (Disk count) = disk_short
fault_short (Read count) = disk_short
fault_short Full = full_short
fault_short No_memory = omega arith

outcome_short : (outcome : Outcome) → length (outcome_bytes outcome) ≤ 25
outcome_short Goes_on = omega arith
outcome_short Waits = omega arith
outcome_short (Ends Finished) = omega arith
outcome_short (Ends Out_of_turn) = broken_short
outcome_short (Ends Too_late) = again_short
outcome_short (Ends Too_much) = broken_short
outcome_short (Ends (Refused_by fault)) = fault_short fault

-- a message without data, whose file has a key within the limits
abbrev pub IsBrief : Message → Type 0
IsBrief (File key offset) = IsKey key
IsBrief (Data bytes) = ⊥
IsBrief (Got key) = IsKey key
IsBrief (Get key offset) = IsKey key
IsBrief (Skip key) = IsKey key
IsBrief EndMessage = Unit {0}

pub message_short : (message : Message) → IsBrief message → length (message_bytes message) ≤ 998
message_short (File key offset) is = let all = place_short key offset is in omega arith
message_short (Data bytes) is = absurd is
message_short (Got key) is = let all = key_short key is in omega arith
message_short (Get key offset) is = let all = place_short key offset is in omega arith
message_short (Skip key) is = let all = key_short key is in omega arith
message_short EndMessage is = omega arith

one_short : (message : Message) → IsBrief message → length (said_bytes (message ∷ [])) ≤ 998
one_short message is = omega (arith, message_short message is, length-append (message_bytes message) [])

-- Messages after login.

-- the file that is held has a key within the limits
abbrev pub HoldsKey : Option Part → Type 0
HoldsKey None = Unit {0}
HoldsKey (Some part) = IsKey part.key

file_short : (t : Talk) (key : Key) (x : Answer) (v : Verdict) → IsKey key → AfterFile t key x v → length (said_bytes v.said) ≤ 998
file_short t key (Filed Have) v is a = rw a (one_short (Got key) is)
file_short t key (Filed Refuse) v is a = rw a (one_short (Got key) is)
file_short t key (Filed Whole) v is a = rw a (one_short (Got key) is)
file_short t key (Filed Elsewhere) v is a = rw a (one_short (Skip key) is)
file_short t key (Filed (From place)) v is a = rw a (one_short (Get key place) is)
file_short t key (Filed Go) v is a = rw a (omega arith)
file_short t key (Filed Late) v is a = rw a (omega arith)
file_short t key (Refused fault) v is a = rw a (omega arith)
file_short t key _ v is a = absurd a

data_short : (t : Talk) (key : Key) (x : Answer) (v : Verdict) → IsKey key → AfterData t key x v → length (said_bytes v.said) ≤ 998
data_short t key More v is a = rw a (omega arith)
data_short t key Whole_now v is a = rw a (one_short (Got key) is)
data_short t key (Refused fault) v is a = rw a (omega arith)
data_short t key _ v is a = absurd a

settled_short : (t : Talk) (x : Answer) (v : Verdict) → AfterSettling t x v → length (said_bytes v.said) ≤ 998
settled_short t Settled v a = rw a (omega arith)
settled_short t (Refused fault) v a = rw a (omega arith)
settled_short t _ v a = absurd a

-- data has none
abbrev pub TakesKey : Message → Type 0
TakesKey (Data bytes) = Unit {0}
TakesKey message = IsBrief message

held_key : (held : Option Part) (p : Part) → held ≡ Some p → HoldsKey held → IsKey p.key
held_key None p has holds = absurd (let clash : None ≡ Some p = has in cc)
held_key (Some q) p has holds = let same : q ≡ p = cc in subst (λ (x : Part). IsKey x.key) same holds

take_short : (held : Option Part) (t : Talk) (message : Message) (es : List Event) (v : Verdict) → HoldsKey held → TakesKey message → TakeRow held t message es v → length (said_bytes v.said) ≤ 998
take_short held t (File key offset) es v holds is row = file_short t key row.answer v is row.then
take_short held t (Data bytes) es v holds is (Nothing_held idle none a) = rw a (omega arith)
take_short held t (Data bytes) es v holds is (Drops p has taken none a) = rw a (omega arith)
take_short held t (Data bytes) es v holds is (Exceeds p has taking much none a) = rw a (omega arith)
take_short held t (Data bytes) es v holds is (Fits p has taking fits x asks after) = data_short t p.key x v (held_key held p has holds) after
take_short held t (Got key) es v holds is (Settles s way same x asks after) = settled_short t x v after
take_short held t (Got key) es v holds is (Passes_got other none a) = rw a (omega arith)
take_short held t (Get key offset) es v holds is (Resends s way same inside none a) = rw a (one_short (File key offset) is)
take_short held t (Get key offset) es v holds is (Passes_get other none a) = rw a (omega arith)
take_short held t (Skip key) es v holds is (Skips s way same x asks after) = settled_short t x v after
take_short held t (Skip key) es v holds is (Passes_skip other none a) = rw a (omega arith)
take_short held t EndMessage es v holds is row = rw row.1 (omega arith)

talk_short : (n : ℕ) (talk : Talk) (held : Option Part) (message : Message) (es : List Event) (r : Reply) → HoldsKey held → TakesKey message → TalkRow n talk held message es r → length r.output ≤ 1100
talk_short n talk held message es r holds is row =
    let v = row.verdict in
    let said = take_short held talk message es v holds is row.row in
    rw row.is (omega (arith, said, outcome_short v.outcome, length-append (said_bytes v.said) (outcome_bytes v.outcome)))

logged_short : (n : ℕ) (talk : Talk) (held : Option Part) (command : CommandText) (es : List Event) (r : Reply) → HoldsKey held → HasFile command → LoggedRow n talk held command es r → length r.output ≤ 1100
logged_short n talk held (Nul text) es r holds has row = rw row.1 (omega arith)
logged_short n talk held (Adr addresses) es r holds has row = rw row.1 (omega arith)
logged_short n talk held (Pwd text) es r holds has row = rw row.1 (omega arith)
logged_short n talk held (FileCommand key offset) es r holds has row = talk_short n talk held (File key offset) es r holds has.file.key row
logged_short n talk held (Accept text) es r holds has row = rw row.1 (omega arith)
logged_short n talk held Eob es r holds has row = talk_short n talk held EndMessage es r holds tt row
logged_short n talk held (GotCommand key) es r holds has row = talk_short n talk held (Got key) es r holds has.key row
logged_short n talk held (Error text) es r holds has row = rw row.1 (omega arith)
logged_short n talk held (Bsy text) es r holds has row = rw row.1 (omega arith)
logged_short n talk held (GetCommand key offset) es r holds has row = talk_short n talk held (Get key offset) es r holds has.file.key row
logged_short n talk held (SkipCommand key) es r holds has row = talk_short n talk held (Skip key) es r holds has.key row
logged_short n talk held (Other number) es r holds has row = rw row.1 (omega arith)

-- The login.

pub first_short : (command : CommandText) (most : ℕ) → length (command_bytes command) ≤ most → length (login_bytes (command ∷ [])) ≤ most
first_short command most short = omega (arith, short, length-append (command_bytes command) [])

refusal_short : (text : List ℕ) → length text ≤ 22 → length (login_bytes (Error text ∷ [])) ≤ 1027
refusal_short text short = first_short (Error text) 1027 (let all = error_short text short in omega arith)

anywhere_short : (stage : LoginStage) (command : CommandText) → length (login_bytes (anywhere stage command).said) ≤ 1027
anywhere_short stage (Nul text) = omega arith
anywhere_short stage (Adr addresses) = omega arith
anywhere_short stage (Pwd text) = omega arith
anywhere_short stage (FileCommand key offset) = refusal_short (codes "broken frame") (omega arith)
anywhere_short stage (Accept text) = omega arith
anywhere_short stage Eob = refusal_short (codes "broken frame") (omega arith)
anywhere_short stage (GotCommand key) = refusal_short (codes "broken frame") (omega arith)
anywhere_short stage (Error text) = omega arith
anywhere_short stage (Bsy text) = omega arith
anywhere_short stage (GetCommand key offset) = refusal_short (codes "broken frame") (omega arith)
anywhere_short stage (SkipCommand key) = refusal_short (codes "broken frame") (omega arith)
anywhere_short stage (Other number) = omega arith

met_short : (t : Terms) (side : Side) (offer : Offered) (peers : List Address) → length (login_bytes (met t side offer peers).said) ≤ 1027
met_short t Answers offer peers = omega arith
met_short t (Calls called) offer peers =
    elim (cases_Bool (is_among called peers)) as (λ _. length (login_bytes (met t (Calls called) offer peers).said) ≤ 1027) [
      | inl e ↦ rw e (first_short (Pwd _) 1027 (let spoken = spoken_short (password_for t.conf called) offer in omega arith))
      | inr e ↦ rw e (refusal_short (codes "not the called address") (omega arith))
    ]

named_short : (t : Terms) (offer : Offered) (peers : List Address) → length (login_bytes (named t offer peers).said) ≤ 1027
named_short t offer [] = refusal_short (codes "broken frame") (omega arith)
named_short t offer (first ∷ others) = met_short t t.side offer (first ∷ others)

early_password_short : (side : Side) (offer : Offered) → length (login_bytes (early_password side offer).said) ≤ 1027
early_password_short Answers offer = refusal_short (codes "broken frame") (omega arith)
early_password_short (Calls called) offer = omega arith

early_word_short : (side : Side) (offer : Offered) → length (login_bytes (early_word side offer).said) ≤ 1027
early_word_short Answers offer = omega arith
early_word_short (Calls called) offer = refusal_short (codes "broken frame") (omega arith)

entry_short : (peers : List Address) (secure : Bool) → length (login_bytes (enters peers secure).said) ≤ 1027
entry_short peers true = first_short (Accept (codes "secure")) 1027 (omega arith)
entry_short peers false = first_short (Accept (codes "non-secure")) 1027 (omega arith)

judged_short : (t : Terms) (peers : List Address) (given : List ℕ) (wanted : Option (List ℕ)) → length (login_bytes (judged t peers given wanted).said) ≤ 1027
judged_short t peers given None = entry_short peers false
judged_short t peers given (Some password) =
    elim (cases_Bool (is_answer password t.challenge given)) as (λ _. length (login_bytes (judged t peers given (Some password)).said) ≤ 1027) [
      | inl e ↦ rw e (entry_short peers true)
      | inr e ↦ rw e (refusal_short (codes "bad password") (omega arith))
    ]

before_address_short : (t : Terms) (offer : Offered) (command : CommandText) → length (login_bytes (before_address t offer command).said) ≤ 1027
before_address_short t offer (Nul text) = omega arith
before_address_short t offer (Adr addresses) = named_short t offer (without_own t.conf.addresses addresses)
before_address_short t offer (Pwd text) = early_password_short t.side offer
before_address_short t offer (FileCommand key offset) = anywhere_short (Awaits_address offer) (FileCommand key offset)
before_address_short t offer (Accept text) = early_word_short t.side offer
before_address_short t offer Eob = anywhere_short (Awaits_address offer) Eob
before_address_short t offer (GotCommand key) = anywhere_short (Awaits_address offer) (GotCommand key)
before_address_short t offer (Error text) = omega arith
before_address_short t offer (Bsy text) = omega arith
before_address_short t offer (GetCommand key offset) = anywhere_short (Awaits_address offer) (GetCommand key offset)
before_address_short t offer (SkipCommand key) = anywhere_short (Awaits_address offer) (SkipCommand key)
before_address_short t offer (Other number) = omega arith

before_password_short : (t : Terms) (peers : List Address) (command : CommandText) → length (login_bytes (before_password t peers command).said) ≤ 1027
before_password_short t peers (Nul text) = omega arith
before_password_short t peers (Adr addresses) = omega arith
before_password_short t peers (Pwd text) = judged_short t peers text (wanted_password t.conf peers)
before_password_short t peers (FileCommand key offset) = anywhere_short (Awaits_password peers) (FileCommand key offset)
before_password_short t peers (Accept text) = omega arith
before_password_short t peers Eob = anywhere_short (Awaits_password peers) Eob
before_password_short t peers (GotCommand key) = anywhere_short (Awaits_password peers) (GotCommand key)
before_password_short t peers (Error text) = omega arith
before_password_short t peers (Bsy text) = omega arith
before_password_short t peers (GetCommand key offset) = anywhere_short (Awaits_password peers) (GetCommand key offset)
before_password_short t peers (SkipCommand key) = anywhere_short (Awaits_password peers) (SkipCommand key)
before_password_short t peers (Other number) = omega arith

before_word_short : (peers : List Address) (secure : Bool) (command : CommandText) → length (login_bytes (before_word peers secure command).said) ≤ 1027
before_word_short peers secure (Nul text) = omega arith
before_word_short peers secure (Adr addresses) = omega arith
before_word_short peers secure (Pwd text) = omega arith
before_word_short peers secure (FileCommand key offset) = anywhere_short (Awaits_word peers secure) (FileCommand key offset)
before_word_short peers secure (Accept text) = omega arith
before_word_short peers secure Eob = anywhere_short (Awaits_word peers secure) Eob
before_word_short peers secure (GotCommand key) = anywhere_short (Awaits_word peers secure) (GotCommand key)
before_word_short peers secure (Error text) = omega arith
before_word_short peers secure (Bsy text) = omega arith
before_word_short peers secure (GetCommand key offset) = anywhere_short (Awaits_word peers secure) (GetCommand key offset)
before_word_short peers secure (SkipCommand key) = anywhere_short (Awaits_word peers secure) (SkipCommand key)
before_word_short peers secure (Other number) = omega arith

login_short : (t : Terms) (at : LoginStage) (command : CommandText) → length (login_bytes (reply_to t at command).said) ≤ 1027
login_short t (Awaits_address offer) command = before_address_short t offer command
login_short t (Awaits_password peers) command = before_password_short t peers command
login_short t (Awaits_word peers secure) command = before_word_short peers secure command

begun_short : (s : Setting) (at : LoginStage) (said : List ℕ) (x : Answer) (r : Reply) → length said ≤ 1027 → AfterBegin s.side at said x r → length r.output ≤ 1100
begun_short s at said (Begun number) r short a = rw a (omega arith)
begun_short s at said (Refused fault) r short a = rw a (omega (arith, short, fault_short fault, length-append said (fault_bytes fault)))
begun_short s at said _ r short a = absurd a

step_short : (s : Setting) (n : ℕ) (at : LoginStage) (said : List ℕ) (step : Step) (es : List Event) (r : Reply) → length said ≤ 1027 → StepRow s n at said step es r → length r.output ≤ 1100
step_short s n at said (LoginMore stage) es r short row = rw row.1 (omega arith)
step_short s n at said (In peers secure) es r short row = begun_short s at said row.answer r short row.follows
step_short s n at said (Bad_password wanted given) es r short row = rw row.1 (omega arith)
step_short s n at said (Peer_error text) es r short row = rw row.1 (omega arith)
step_short s n at said Peer_busy es r short row = rw row.1 (omega arith)
step_short s n at said (Broke fault) es r short row = rw row.1 (omega arith)

-- Each row.

abbrev pub HoldsKeyAt : Stage → Type 0
HoldsKeyAt (Logs_in at) = Unit {0}
HoldsKeyAt (Talks talk held) = HoldsKey held

command_short : (s : Setting) (n : ℕ) (stage : Stage) (command : CommandText) (es : List Event) (r : Reply) → HoldsKeyAt stage → HasFile command → CommandRow s n stage command es r → length r.output ≤ 1100
command_short s n (Logs_in at) command es r holds has row = step_short s n at _ _ es r (login_short (terms_of s) at command) row
command_short s n (Talks talk held) command es r holds has row = logged_short n talk held command es r holds has row

frame_data_short : (n : ℕ) (stage : Stage) (bytes : List ℕ) (es : List Event) (r : Reply) → HoldsKeyAt stage → DataRow n stage bytes es r → length r.output ≤ 1100
frame_data_short n (Logs_in at) bytes es r holds row = rw row.1 (let short = broken_short in omega arith)
frame_data_short n (Talks talk held) bytes es r holds row = talk_short n talk held (Data bytes) es r holds tt row

pub row_short : (s : Setting) (n : ℕ) (stage : Stage) (frame : FrameText) (es : List Event) (r : Reply) → HoldsKeyAt stage → Row s n stage frame es r → length r.output ≤ 1100
row_short s n stage (CommandFrame number args) es r holds row = go (command_of s.home number args) refl row
  where
    go : (read : Result CommandText ArgFault) → command_of s.home number args ≡ read → ReadRow s n stage read es r → length r.output ≤ 1100
    go (Ok command) e row = command_short s n stage command es r holds (command_limits s.home number args command e).0 row
    go (Err fault) e row = rw row.1 (let short = broken_short in omega arith)
row_short s n stage (DataFrame bytes) es r holds row = frame_data_short n stage bytes es r holds row

-- What was written of one.

-- a session holds a file with a key within the limits
pub session_holds : (session : Session) → HoldsKeyAt (stage_in session)
session_holds session = at session.stage
  where
    in_half : (holding : Holding) → HoldsKey (held_in holding)
    in_half H.Idle = tt
    in_half (H.Dropping held) = record { some = held.some; short = held.short }
    in_half (H.Taking held) = record { some = held.some; short = held.short }

    at : (stage : CodeStage) → HoldsKeyAt (stage_with session.auth stage)
    at K.LogsIn = tt
    at (K.Talks talking) = in_half talking.receiver.holding

pub written_short : (old new output : List ℕ) (goal took : Took) (most : ℕ) → length output ≤ most → Writes old new output goal took → length new ≤ length old + most
written_short old new output goal took most short w = omega (arith, ap length w.grew, length-append old w.written, front w.said)
  where
    front : Said output goal w.written took → length w.written ≤ most
    front (inl all) = omega (arith, short, ap length all.1)
    front (inr cut) = omega (arith, short, ap length cut.1.2, length-append w.written cut.1.0)

pub made_short : (P : List Event → Reply → Type 0) (alone : Bool) (old new : Stand) (was now : Told) (stage : Stage) (out out' : List ℕ) (took : Took) → ((es : List Event) (r : Reply) → P es r → length r.output ≤ 1100) → MadeRow P alone old new was now stage out out' took → length out' ≤ length out + 1100
made_short P alone old new was now stage out out' took short (inl m) = written_short out out' m.did.reply.output m.did.reply.took took 1100 (short _ m.did.reply m.did.row) m.did.writes
made_short P alone old new was now stage out out' took short (inr g) = omega (arith, ap length g.out_is)
