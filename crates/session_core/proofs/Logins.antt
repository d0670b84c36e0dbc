-- The login that a session tells.
use Rattle.std.proofs.Common.{◌≡◌, ◌∙◌, ℕ, Bool, List, [], ◌∷◌, Option, Some, None, ◌++◌, refl, sym, ap, subst, inl}
use Rattle.ftn_addr.specs.Address.{Address}
use Rattle.binkp_args.specs.Command.{CommandText, Nul, Adr, Pwd, File as FileCommand, Accept, Eob, Got as GotCommand, Error, Bsy, Get as GetCommand, Skip as SkipCommand, Other}
use Rattle.node_model.specs.Calls.{Open_call, Answer, Begun, Event, asked_of, turned}
use Rattle.node_model.specs.Images.{Stand, Kept}
use Rattle.node_model.specs.Talk.{Message, File, Data, Got, Get, Skip, End as EndMessage, Talk, first_words, Part, Verdict, TakeRow, Nothing_held, Drops, Exceeds, Fits, Settles, Passes_got, Skips, Passes_skip, Resends, Passes_get}
use Rattle.node_model.proofs.Rans.{ran_one}
use Rattle.node_model.specs.declared.words.Role.{Role}
use Rattle.session_recv.specs.Replies.{held_of}
use Rattle.session_core.specs.declared.stage.Talking.{Talking}
use Rattle.mail_conf.specs.Conf.{ConfText}
use Rattle.session_auth.specs.Login.{Stage as LoginStage, Step, Reply as LoginReply, reply_to}
use Rattle.session_auth.specs.Says.{said_bytes as login_bytes}
use Rattle.session_auth.specs.Views.{Keeps as LoginKeeps, Replies as LoginReplies, stage_in as login_stage, step_of}
use Rattle.session_auth.specs.Sides.{side_of}
use Rattle.session_auth.specs.declared.auth.Auth.{Auth}
use Rattle.session_auth.specs.declared.steps.AuthStep.{AuthStep}
use Rattle.session_core.specs.declared.session.Session.{Session}
use Rattle.session_core.specs.declared.terms.Setting.{Setting as CodeSetting}
use Rattle.session_core.specs.Ends.{End}
use Rattle.session_core.specs.Takings.{Took}
use Rattle.session_core.specs.Takings as T
use Rattle.session_core.specs.Stages.{Setting, Stage, Talks, Login, Tally, nothing_yet, tally_along, Told, told_along, role_of}
use Rattle.session_core.specs.Sessions.{AfterBegin, BeginRow, LoggedRow, LoginRow, Plain, Reply, StepRow, TalkRow, on, over, terms_of}
use Rattle.session_core.specs.Replies.{Counts, IfMore, Lent, Made, MadeRow, Writes, lent_in, setting_in, setting_with, talk_of, talking_stage}
use Rattle.session_core.proofs.Dids.{made_row}
use Rattle.session_core.proofs.Writings.{wrote_all}

-- the login after these calls is that before them
abbrev pub OpensNone : Told → List Event → Type 0
OpensNone was es = told_along was es ≡ record { login = was.login; tally = tally_along was.tally es }

-- A message after login opens no session.
takes_open_none : (was : Told) (part : Option Part) (t : Talk) (message : Message) (es : List Event) (v : Verdict) → TakeRow part t message es v → OpensNone was es
takes_open_none was part t (File key offset) es v row = rw row.asks refl
takes_open_none was part t (Data bytes) es v (Nothing_held idle none is) = rw none refl
takes_open_none was part t (Data bytes) es v (Drops p has taken none is) = rw none refl
takes_open_none was part t (Data bytes) es v (Exceeds p has taking much none is) = rw none refl
takes_open_none was part t (Data bytes) es v (Fits p has taking fits x asks after) = rw asks refl
takes_open_none was part t (Got key) es v (Settles s way same x asks after) = rw asks refl
takes_open_none was part t (Got key) es v (Passes_got other none is) = rw none refl
takes_open_none was part t (Get key offset) es v (Resends s way same inside none is) = rw none refl
takes_open_none was part t (Get key offset) es v (Passes_get other none is) = rw none refl
takes_open_none was part t (Skip key) es v (Skips s way same x asks after) = rw asks refl
takes_open_none was part t (Skip key) es v (Passes_skip other none is) = rw none refl
takes_open_none was part t EndMessage es v row = rw row.0 refl

pub talk_opens_none : (was : Told) (n : ℕ) (talk : Talk) (held : Option Part) (message : Message) (es : List Event) (r : Reply) → TalkRow n talk held message es r → OpensNone was es
talk_opens_none was n talk held message es r row = takes_open_none was held talk message es row.verdict row.row

pub logged_opens_none : (was : Told) (n : ℕ) (talk : Talk) (held : Option Part) (command : CommandText) (es : List Event) (r : Reply) → LoggedRow n talk held command es r → OpensNone was es
logged_opens_none was n talk held (Nul text) es r row = rw row.0 refl
logged_opens_none was n talk held (Adr addresses) es r row = rw row.0 refl
logged_opens_none was n talk held (Pwd text) es r row = rw row.0 refl
logged_opens_none was n talk held (FileCommand key offset) es r row = talk_opens_none was n talk held (File key offset) es r row
logged_opens_none was n talk held (Accept text) es r row = rw row.0 refl
logged_opens_none was n talk held Eob es r row = talk_opens_none was n talk held EndMessage es r row
logged_opens_none was n talk held (GotCommand key) es r row = talk_opens_none was n talk held (Got key) es r row
logged_opens_none was n talk held (Error text) es r row = rw row.0 refl
logged_opens_none was n talk held (Bsy text) es r row = rw row.0 refl
logged_opens_none was n talk held (GetCommand key offset) es r row = talk_opens_none was n talk held (Get key offset) es r row
logged_opens_none was n talk held (SkipCommand key) es r row = talk_opens_none was n talk held (Skip key) es r row
logged_opens_none was n talk held (Other number) es r row = rw row.0 refl

-- so the login stays
told_still : (was now : Told) (es : List Event) → now.login ≡ was.login → now.tally ≡ tally_along was.tally es → OpensNone was es → now ≡ told_along was es
told_still was now es same counts none =
    ap (λ (l : Option Login). record { login = l; tally = now.tally }) same ∙ ap (λ (t : Tally). record { login = was.login; tally = t }) counts ∙ sym none

pub logged_stays : (was now : Told) (n : ℕ) (talk : Talk) (held : Option Part) (command : CommandText) (alone : Bool) (old new : Stand) (stage : Stage) (out out' : List ℕ) (took : Took) → now.login ≡ was.login → Counts (LoggedRow n talk held command) alone old new was.tally now.tally stage out out' took → Made (LoggedRow n talk held command) alone old new was now stage out out' took
logged_stays was now n talk held command alone old new stage out out' took same m =
    record { did = m.did; told_is = told_still was now (asked_of m.did.events) same m.count_is (logged_opens_none was n talk held command _ m.did.reply m.did.row) }

pub talk_stays : (was now : Told) (n : ℕ) (talk : Talk) (held : Option Part) (message : Message) (alone : Bool) (old new : Stand) (stage : Stage) (out out' : List ℕ) (took : Took) → now.login ≡ was.login → Counts (TalkRow n talk held message) alone old new was.tally now.tally stage out out' took → Made (TalkRow n talk held message) alone old new was now stage out out' took
talk_stays was now n talk held message alone old new stage out out' took same m =
    record { did = m.did; told_is = told_still was now (asked_of m.did.events) same m.count_is (talk_opens_none was n talk held message _ m.did.reply m.did.row) }

-- The desk was asked to open a session.
pub did_begin : (s : Setting) (at : LoginStage) (said : List ℕ) (role : Role) (peers seen : List Address) (secure : Bool) (x : Answer) (r : Reply) (alone : Bool) (old new : Stand) (was now : Told) (stage : Stage) (out out' : List ℕ) (took : Took) → role ≡ role_of s.side → seen ≡ peers → AfterBegin s.side at said x r → Kept alone old (Open_call role seen secure s.moment) x new → now ≡ told_along was (record { call = Open_call (role_of s.side) peers secure s.moment; answer = x } ∷ []) → IfMore took (stage ≡ r.stage) → Writes out out' r.output r.took took → Made (BeginRow s at said peers secure) alone old new was now stage out out' took
did_begin s at said role peers seen secure x r alone old new was now stage out out' took its same after kept login stage_is writes =
    let k : Kept alone old (Open_call (role_of s.side) peers secure s.moment) x new = subst (λ (a : Role). Kept alone old (Open_call a peers secure s.moment) x new) its (subst (λ (p : List Address). Kept alone old (Open_call role p secure s.moment) x new) same kept) in
    record {
      did = record { events = turned (Open_call (role_of s.side) peers secure s.moment) x k.rows_before k.rows_after ∷ []; reply = r; row = record { answer = x; asks = refl; follows = after }; ran = ran_one alone old _ x new k; stage_is = stage_is; writes = writes };
      told_is = login;
    }

-- it began one for a peer of that first address
pub began : (s : Setting) (peers : List Address) (secure : Bool) (peer : Address) (others : List Address) (number : ℕ) (was : Told) (tally : Tally) → peers ≡ peer ∷ others → tally ≡ nothing_yet → was.tally ≡ nothing_yet → record { login = Some (record { number = number; peer = peer }); tally = tally } ≡ told_along was (record { call = Open_call (role_of s.side) peers secure s.moment; answer = Begun number } ∷ [])
began s peers secure peer others number was tally e none early = rw e (ap (λ (t : Tally). record { login = Some (record { number = number; peer = peer }); tally = t }) (none ∙ sym early))

-- A step of the login that asks the desk for nothing.

pub steps_on : (stage : Stage) (alone : Bool) (desk : Stand) (told : Told) (stage' : Stage) (before out said : List ℕ) → stage' ≡ stage → out ≡ before ++ said → Made (Plain (on stage said)) alone desk desk told told stage' before out T.More
steps_on stage alone desk told stage' before out said same e =
    made_row (on stage said) alone desk told told stage' before out T.More refl (record { stage_is = same; writes = wrote_all before out said T.More e })

pub steps_over : (stage : Stage) (end : End) (alone : Bool) (desk : Stand) (told : Told) (stage' : Stage) (before out said : List ℕ) → out ≡ before ++ said → Made (Plain (over stage said end)) alone desk desk told told stage' before out (T.Ended end)
steps_over stage end alone desk told stage' before out said e =
    made_row (over stage said end) alone desk told told stage' before out (T.Ended end) refl (record { stage_is = tt; writes = wrote_all before out said (T.Ended end) e })

-- what a session is lent stays where its login keeps what it goes by
abbrev pub lent_with : Auth → CodeSetting → Lent
lent_with auth setting = record { side = side_of auth.side; challenge = auth.challenge; moment = setting.moment; limit = setting.limit; block = setting.block }

pub same_lent : (auth auth' : Auth) (setting : CodeSetting) → LoginKeeps auth auth' → lent_with auth' setting ≡ lent_with auth setting
same_lent auth auth' setting keeps = rw (keeps.side_is, keeps.challenge_is) refl

-- the login took a command, and what it says became of the session
pub logs_in : (old : Session) (auth : Auth) (conf : ConfText) (command : CommandText) (step : AuthStep) (n : ℕ) (alone : Bool) (desk desk' : Stand) (was now : Told) (stage : Stage) (out said out' : List ℕ) (took : Took) → lent_with auth old.setting ≡ lent_in old → LoginReplies (reply_to (terms_of (setting_in old conf)) (login_stage old.auth) command) out said auth step → ((conf : ConfText) (at : LoginStage) (before words : List ℕ) → said ≡ before ++ words → Made (StepRow (setting_with (lent_with auth old.setting) conf) n at words (step_of auth step)) alone desk desk' was now stage before out' took) → MadeRow (LoginRow (setting_in old conf) n (login_stage old.auth) command) alone desk desk' was now stage out out' took
logs_in old auth conf command step n alone desk desk' was now stage out said out' took lent replies follows =
    let reply : LoginReply = reply_to (terms_of (setting_in old conf)) (login_stage old.auth) command in
    let as_lent : Made (StepRow (setting_in old conf) n (login_stage old.auth) (login_bytes reply.said) (step_of auth step)) alone desk desk' was now stage out out' took = subst (λ (l : Lent). Made (StepRow (setting_with l conf) n (login_stage old.auth) (login_bytes reply.said) (step_of auth step)) alone desk desk' was now stage out out' took) lent (follows conf (login_stage old.auth) out (login_bytes reply.said) replies.said_is) in
    inl (subst (λ (x : Step). Made (StepRow (setting_in old conf) n (login_stage old.auth) (login_bytes reply.said) x) alone desk desk' was now stage out out' took) replies.step_is as_lent)

-- it has its first words to say
pub first_stage : (t : Talking) (role own : Role) → role ≡ own → talk_of t ≡ first_words role → held_of t.receiver ≡ None → talking_stage t ≡ Talks (first_words own) None
first_stage t role own its talk held = ap (λ (x : Talk). Talks x (held_of t.receiver)) talk ∙ ap (λ (h : Option Part). Talks (first_words role) h) held ∙ ap (λ (a : Role). Talks (first_words a) None) its
