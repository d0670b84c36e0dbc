-- What the login makes of a command: an end has its cause, and nothing that is said acknowledges a file or ends a batch.
use Rattle.std.proofs.Common.{◌≡◌, ◌≢◌, ℕ, Bool, true, false, List, [], ◌∷◌, ◌++◌, length, take, Option, Some, None, refl, codes}
use Rattle.std.specs.Prelude.{◌==◌, nat_lt, if◌then◌else◌}
use Rattle.ftn_addr.specs.Address.{Address}
use Rattle.binkp_args.specs.Command.{CommandText, Nul, Adr, Pwd, File, Accept, Eob, Got, Error, Bsy, Get, Skip, Other}
use Rattle.binkp_args.specs.Writing.{number_of}
use Rattle.cram_md5.specs.Answer.{answer, is_answer}
use Rattle.cram_md5.specs.Offer.{Offered}
use Rattle.mail_conf.specs.Conf.{ConfText}
use Rattle.node_model.specs.Lists.{Each}
use Rattle.session_auth.specs.Greeting.{greeting, offer_line, setting_line, time_line, version, announced}
use Rattle.session_auth.specs.Login.{Terms, Stage, Awaits_address, Awaits_password, Awaits_word, Step, Bad_password, Peer_error, Peer_busy, Reply, reply_to, before_address, before_password, before_word, anywhere, named, met, early_password, early_word, judged}
use Rattle.session_auth.specs.Moment.{moment_text}
use Rattle.session_auth.specs.Passwords.{is_among, wanted_password, without_own}
use Rattle.session_auth.specs.Says.{said_bytes}
use Rattle.session_auth.specs.Sides.{Side, Answers, Calls}
use Rattle.session_core.specs.Stages.{Stage as SessionStage}
use Rattle.ftn_addr.specs.Key.{Key}
use Rattle.node_model.specs.Calls.{Event}
use Rattle.session_run.proofs.FrameWritings.{Framed, both, each_both, nothing, plain}

-- the answer to the challenge was wanted for the first password of these peers, and what was given is none
pub record BadAnswer (t : Terms) (at : Stage) (command : CommandText) (wanted given : List ℕ) : Type 0 where
  pub peers : List Address
  pub waits : at ≡ Awaits_password peers
  pub password : List ℕ
  pub has : wanted_password t.conf peers ≡ Some password
  pub answers : wanted ≡ answer password t.challenge
  pub other : is_answer password t.challenge given ≡ false
  pub says : command ≡ Pwd given

abbrev pub StepCause : Terms → Stage → CommandText → Step → Type 0
StepCause t at command (Bad_password wanted given) = BadAnswer t at command wanted given
StepCause t at command (Peer_error text) = command ≡ Error text
StepCause t at command Peer_busy = (text : List ℕ) × (command ≡ Bsy text)
StepCause t at command step = Unit {0}

-- neither M_GOT nor M_EOB
abbrev pub IsWord : CommandText → Type 0
IsWord command = (number_of command ≢ 6) × (number_of command ≢ 5)

pub record Well (t : Terms) (at : Stage) (command : CommandText) (reply : Reply) : Type 0 where
  pub cause : StepCause t at command reply.step
  pub words : Each IsWord reply.said

word_nul : (text : List ℕ) → IsWord (Nul text)
word_nul text = (λ six. let clash : 0 ≡ 6 = six in cc, λ five. let clash : 0 ≡ 5 = five in cc)

word_adr : (addresses : List Address) → IsWord (Adr addresses)
word_adr addresses = (λ six. let clash : 1 ≡ 6 = six in cc, λ five. let clash : 1 ≡ 5 = five in cc)

word_pwd : (text : List ℕ) → IsWord (Pwd text)
word_pwd text = (λ six. let clash : 2 ≡ 6 = six in cc, λ five. let clash : 2 ≡ 5 = five in cc)

word_accept : (text : List ℕ) → IsWord (Accept text)
word_accept text = (λ six. let clash : 4 ≡ 6 = six in cc, λ five. let clash : 4 ≡ 5 = five in cc)

word_error : (text : List ℕ) → IsWord (Error text)
word_error text = (λ six. let clash : 7 ≡ 6 = six in cc, λ five. let clash : 7 ≡ 5 = five in cc)

-- wherever it stands

anywhere_well : (t : Terms) (at : Stage) (command : CommandText) → Well t at command (anywhere at command)
anywhere_well t at (Nul text) = record { cause = tt; words = tt }
anywhere_well t at (Adr addresses) = record { cause = tt; words = tt }
anywhere_well t at (Pwd text) = record { cause = tt; words = tt }
anywhere_well t at (File key offset) = record { cause = tt; words = (word_error [], tt) }
anywhere_well t at (Accept text) = record { cause = tt; words = tt }
anywhere_well t at Eob = record { cause = tt; words = (word_error [], tt) }
anywhere_well t at (Got key) = record { cause = tt; words = (word_error [], tt) }
anywhere_well t at (Error text) = record { cause = refl; words = tt }
anywhere_well t at (Bsy text) = record { cause = (text, refl); words = tt }
anywhere_well t at (Get key offset) = record { cause = tt; words = (word_error [], tt) }
anywhere_well t at (Skip key) = record { cause = tt; words = (word_error [], tt) }
anywhere_well t at (Other number) = record { cause = tt; words = tt }

either_well : (t : Terms) (at : Stage) (command : CommandText) (b : Bool) (x y : Reply) → Well t at command x → Well t at command y → Well t at command (if b then x else y)
either_well t at command true x y p q = p
either_well t at command false x y p q = q

-- before the peer's addresses

met_well : (t : Terms) (at : Stage) (command : CommandText) (side : Side) (offer : Offered) (peers : List Address) → Well t at command (met t side offer peers)
met_well t at command Answers offer peers = record { cause = tt; words = tt }
met_well t at command (Calls called) offer peers =
    either_well t at command (is_among called peers) _ _ (record { cause = tt; words = (word_pwd [], tt) }) (record { cause = tt; words = (word_error [], tt) })

named_well : (t : Terms) (at : Stage) (command : CommandText) (offer : Offered) (peers : List Address) → Well t at command (named t offer peers)
named_well t at command offer [] = record { cause = tt; words = (word_error [], tt) }
named_well t at command offer (first ∷ others) = met_well t at command t.side offer (first ∷ others)

password_well : (t : Terms) (at : Stage) (command : CommandText) (side : Side) (offer : Offered) → Well t at command (early_password side offer)
password_well t at command Answers offer = record { cause = tt; words = (word_error [], tt) }
password_well t at command (Calls called) offer = record { cause = tt; words = tt }

accept_well : (t : Terms) (at : Stage) (command : CommandText) (side : Side) (offer : Offered) → Well t at command (early_word side offer)
accept_well t at command Answers offer = record { cause = tt; words = tt }
accept_well t at command (Calls called) offer = record { cause = tt; words = (word_error [], tt) }

before_well : (t : Terms) (offer : Offered) (command : CommandText) → Well t (Awaits_address offer) command (before_address t offer command)
before_well t offer (Nul text) = record { cause = tt; words = tt }
before_well t offer (Adr addresses) = named_well t _ _ offer (without_own t.conf.addresses addresses)
before_well t offer (Pwd text) = password_well t _ _ t.side offer
before_well t offer (Accept text) = accept_well t _ _ t.side offer
before_well t offer (File key offset) = anywhere_well t (Awaits_address offer) (File key offset)
before_well t offer Eob = anywhere_well t (Awaits_address offer) Eob
before_well t offer (Got key) = anywhere_well t (Awaits_address offer) (Got key)
before_well t offer (Error text) = anywhere_well t (Awaits_address offer) (Error text)
before_well t offer (Bsy text) = anywhere_well t (Awaits_address offer) (Bsy text)
before_well t offer (Get key offset) = anywhere_well t (Awaits_address offer) (Get key offset)
before_well t offer (Skip key) = anywhere_well t (Awaits_address offer) (Skip key)
before_well t offer (Other number) = anywhere_well t (Awaits_address offer) (Other number)

-- before the caller's password

answer_well : (t : Terms) (peers : List Address) (given password : List ℕ) (b : Bool) (x y : Reply) → (b ≡ true → Well t (Awaits_password peers) (Pwd given) x) → (b ≡ false → Well t (Awaits_password peers) (Pwd given) y) → Well t (Awaits_password peers) (Pwd given) (if b then x else y)
answer_well t peers given password true x y p q = p refl
answer_well t peers given password false x y p q = q refl

judged_well : (t : Terms) (peers : List Address) (given : List ℕ) (wanted : Option (List ℕ)) → wanted_password t.conf peers ≡ wanted → Well t (Awaits_password peers) (Pwd given) (judged t peers given wanted)
judged_well t peers given None e = record { cause = tt; words = (word_accept [], tt) }
judged_well t peers given (Some password) e =
    answer_well t peers given password (is_answer password t.challenge given) _ _ (λ yes. record { cause = tt; words = (word_accept [], tt) }) (λ no. record {
      cause = record { peers = peers; waits = refl; password = password; has = e; answers = refl; other = no; says = refl };
      words = (word_error [], tt);
    })

waiting_well : (t : Terms) (peers : List Address) (command : CommandText) → Well t (Awaits_password peers) command (before_password t peers command)
waiting_well t peers (Pwd text) = judged_well t peers text (wanted_password t.conf peers) refl
waiting_well t peers (Nul text) = anywhere_well t (Awaits_password peers) (Nul text)
waiting_well t peers (Adr addresses) = anywhere_well t (Awaits_password peers) (Adr addresses)
waiting_well t peers (File key offset) = anywhere_well t (Awaits_password peers) (File key offset)
waiting_well t peers (Accept text) = anywhere_well t (Awaits_password peers) (Accept text)
waiting_well t peers Eob = anywhere_well t (Awaits_password peers) Eob
waiting_well t peers (Got key) = anywhere_well t (Awaits_password peers) (Got key)
waiting_well t peers (Error text) = anywhere_well t (Awaits_password peers) (Error text)
waiting_well t peers (Bsy text) = anywhere_well t (Awaits_password peers) (Bsy text)
waiting_well t peers (Get key offset) = anywhere_well t (Awaits_password peers) (Get key offset)
waiting_well t peers (Skip key) = anywhere_well t (Awaits_password peers) (Skip key)
waiting_well t peers (Other number) = anywhere_well t (Awaits_password peers) (Other number)

-- before the word that the own one is accepted

word_well : (t : Terms) (peers : List Address) (secure : Bool) (command : CommandText) → Well t (Awaits_word peers secure) command (before_word peers secure command)
word_well t peers secure (Accept text) = record { cause = tt; words = tt }
word_well t peers secure (Nul text) = anywhere_well t (Awaits_word peers secure) (Nul text)
word_well t peers secure (Adr addresses) = anywhere_well t (Awaits_word peers secure) (Adr addresses)
word_well t peers secure (Pwd text) = anywhere_well t (Awaits_word peers secure) (Pwd text)
word_well t peers secure (File key offset) = anywhere_well t (Awaits_word peers secure) (File key offset)
word_well t peers secure Eob = anywhere_well t (Awaits_word peers secure) Eob
word_well t peers secure (Got key) = anywhere_well t (Awaits_word peers secure) (Got key)
word_well t peers secure (Error text) = anywhere_well t (Awaits_word peers secure) (Error text)
word_well t peers secure (Bsy text) = anywhere_well t (Awaits_word peers secure) (Bsy text)
word_well t peers secure (Get key offset) = anywhere_well t (Awaits_word peers secure) (Get key offset)
word_well t peers secure (Skip key) = anywhere_well t (Awaits_word peers secure) (Skip key)
word_well t peers secure (Other number) = anywhere_well t (Awaits_word peers secure) (Other number)

pub replies_well : (t : Terms) (at : Stage) (command : CommandText) → Well t at command (reply_to t at command)
replies_well t (Awaits_address offer) command = before_well t offer command
replies_well t (Awaits_password peers) command = waiting_well t peers command
replies_well t (Awaits_word peers secure) command = word_well t peers secure command

-- The frames of what is said.

pub words_framed : (held : Option Key) (es : List Event) (after : SessionStage) (said : List CommandText) → Each IsWord said → Framed held es after (said_bytes said)
words_framed held es after [] words = nothing held es after
words_framed held es after (command ∷ more) words =
    both held es after _ (said_bytes more) (plain held es after command words.0.0 words.0.1) (words_framed held es after more words.1)

-- The greeting.

some_words : (b : Bool) (text : List ℕ) → Each IsWord (if b then [] else Nul text ∷ [])
some_words true text = tt
some_words false text = (word_nul text, tt)

setting_words : (word text : List ℕ) → Each IsWord (setting_line word text)
setting_words word text = some_words (length text == 0) (word ++ take 1024 text)

time_words : (now : ℕ) → Each IsWord (time_line now)
time_words now = some_words (nat_lt 250000000000 now) (codes "TIME " ++ moment_text now)

offer_words : (side : Side) (challenge : List ℕ) → Each IsWord (offer_line side challenge)
offer_words Answers challenge = (word_nul [], tt)
offer_words (Calls called) challenge = tt

pub greeting_words : (side : Side) (conf : ConfText) (challenge : List ℕ) (now : ℕ) → Each IsWord (greeting side conf challenge now)
greeting_words side conf challenge now =
    each_both IsWord (offer_line side challenge ++ setting_line (codes "SYS ") conf.sysname ++ setting_line (codes "ZYZ ") conf.sysop ++ setting_line (codes "LOC ") conf.location ++ setting_line (codes "NDL ") conf.nodeinfo ++ time_line now) (version ∷ Adr (announced conf.addresses) ∷ []) (each_both IsWord (offer_line side challenge ++ setting_line (codes "SYS ") conf.sysname ++ setting_line (codes "ZYZ ") conf.sysop ++ setting_line (codes "LOC ") conf.location ++ setting_line (codes "NDL ") conf.nodeinfo) (time_line now) (each_both IsWord (offer_line side challenge ++ setting_line (codes "SYS ") conf.sysname ++ setting_line (codes "ZYZ ") conf.sysop ++ setting_line (codes "LOC ") conf.location) (setting_line (codes "NDL ") conf.nodeinfo) (each_both IsWord (offer_line side challenge ++ setting_line (codes "SYS ") conf.sysname ++ setting_line (codes "ZYZ ") conf.sysop) (setting_line (codes "LOC ") conf.location) (each_both IsWord (offer_line side challenge ++ setting_line (codes "SYS ") conf.sysname) (setting_line (codes "ZYZ ") conf.sysop) (each_both IsWord (offer_line side challenge) (setting_line (codes "SYS ") conf.sysname) (offer_words side challenge) (setting_words (codes "SYS ") conf.sysname)) (setting_words (codes "ZYZ ") conf.sysop)) (setting_words (codes "LOC ") conf.location)) (setting_words (codes "NDL ") conf.nodeinfo)) (time_words now)) (word_nul [], (word_adr [], tt))
