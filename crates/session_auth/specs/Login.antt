-- The login: from the greeting to the peer's password, or to its word that the own one is accepted (FTS-1026, session
-- stages; FTS-1027). The texts of M_OK and M_ERR are own.
use Rattle.std.specs.Prelude.{ℕ, Bool, true, false, List, [], ◌∷◌, filter, codes, Option, Some, None, if◌then◌else◌}
use Rattle.ftn_addr.specs.Address.{Address}
use Rattle.binkp_args.specs.Command.{CommandText, Nul, Adr, Pwd, File, Accept, Eob, Got, Error, Bsy, Get, Skip, Other}
use Rattle.cram_md5.specs.Answer.{answer, is_answer}
use Rattle.cram_md5.specs.Offer.{Offered, offer_of}
use Rattle.mail_conf.specs.Conf.{ConfText}
use Rattle.session_auth.specs.declared.steps.LoginFault.{LoginFault}
use Rattle.session_auth.specs.declared.steps.LoginFault.TheVariants.{NoAddress, NotCalled, OutOfTurn}
use Rattle.session_auth.specs.Passwords.{is_among, is_password, password_for, without_own, wanted_password, shares, later_offer, spoken_password}
use Rattle.session_auth.specs.Sides.{Side, Answers, Calls}

-- what a login goes by: its side, the challenge that it offered, and the settings
pub record Terms : Type 0 where
  pub side : Side
  pub challenge : List ℕ
  pub conf : ConfText

-- Before the peer's addresses, with its last offer so far; with these addresses before the caller's password; and with the
-- own password said, before the word that it is accepted.
pub data Stage : Type 0 where
  Awaits_address : (offer : Offered) → Stage
  Awaits_password : (peers : List Address) → Stage
  Awaits_word : (peers : List Address) (secure : Bool) → Stage

-- what became of a command: the login goes on, the peer is in, or the session ends
pub data Step : Type 0 where
  More : (stage : Stage) → Step
  In : (peers : List Address) (secure : Bool) → Step
  Bad_password : (wanted given : List ℕ) → Step
  Peer_error : (text : List ℕ) → Step
  Peer_busy : Step
  Broke : (fault : LoginFault) → Step

-- what is said to a command, and what became of it
pub record Reply : Type 0 where
  pub said : List CommandText
  pub step : Step

abbrev pub silent : Step → Reply
silent step = record { said = []; step = step }

abbrev pub says : CommandText → Step → Reply
says command step = record { said = command ∷ []; step = step }

abbrev pub on : Stage → Reply
on stage = silent (More stage)

abbrev pub fault_text : LoginFault → List ℕ
fault_text NotCalled = codes "not the called address"
fault_text _ = codes "broken frame"

abbrev pub breaks : LoginFault → Reply
breaks fault = says (Error (fault_text fault)) (Broke fault)

-- wherever the login stands: what is passed over, what ends it, and what doesn't belong there
abbrev pub anywhere : Stage → CommandText → Reply
anywhere stage (Nul text) = on stage
anywhere stage (Adr addresses) = on stage
anywhere stage (Pwd text) = on stage
anywhere stage (File key offset) = breaks OutOfTurn
anywhere stage (Accept text) = on stage
anywhere stage Eob = breaks OutOfTurn
anywhere stage (Got key) = breaks OutOfTurn
anywhere stage (Error text) = silent (Peer_error text)
anywhere stage (Bsy text) = silent Peer_busy
anywhere stage (Get key offset) = breaks OutOfTurn
anywhere stage (Skip key) = breaks OutOfTurn
anywhere stage (Other number) = on stage

-- the answering side waits for the password; the calling side wants the node that it called, and says its password
abbrev pub met : Terms → Side → Offered → List Address → Reply
met t Answers offer peers = on (Awaits_password peers)
met t (Calls called) offer peers =
    if is_among called peers then says (Pwd (spoken_password (password_for t.conf called) offer)) (More (Awaits_word peers (is_password (password_for t.conf called)))) else breaks NotCalled

-- the peer's addresses without one's own; none is no address
abbrev pub named : Terms → Offered → List Address → Reply
named t offer [] = breaks NoAddress
named t offer (first ∷ others) = met t t.side offer (first ∷ others)

-- M_PWD before M_ADR
abbrev pub early_password : Side → Offered → Reply
early_password Answers offer = breaks OutOfTurn
early_password (Calls called) offer = on (Awaits_address offer)

-- M_OK before the own password
abbrev pub early_word : Side → Offered → Reply
early_word Answers offer = on (Awaits_address offer)
early_word (Calls called) offer = breaks OutOfTurn

abbrev pub before_address : Terms → Offered → CommandText → Reply
before_address t offer (Nul text) = on (Awaits_address (later_offer offer (offer_of text)))
before_address t offer (Adr addresses) = named t offer (without_own t.conf.addresses addresses)
before_address t offer (Pwd text) = early_password t.side offer
before_address t offer (Accept text) = early_word t.side offer
before_address t offer command = anywhere (Awaits_address offer) command

-- M_OK says whether a password was checked
abbrev pub entry_text : Bool → List ℕ
entry_text true = codes "secure"
entry_text false = codes "non-secure"

abbrev pub enters : List Address → Bool → Reply
enters peers secure = says (Accept (entry_text secure)) (In peers secure)

-- M_PWD: where no address has a password any will do; else the first one's is wanted, and addresses with another leave
abbrev pub judged : Terms → List Address → List ℕ → Option (List ℕ) → Reply
judged t peers given None = enters peers false
judged t peers given (Some password) =
    if is_answer password t.challenge given then enters (filter (shares t.conf password) peers) true else says (Error (codes "bad password")) (Bad_password (answer password t.challenge) given)

abbrev pub before_password : Terms → List Address → CommandText → Reply
before_password t peers (Pwd text) = judged t peers text (wanted_password t.conf peers)
before_password t peers command = anywhere (Awaits_password peers) command

abbrev pub before_word : List Address → Bool → CommandText → Reply
before_word peers secure (Accept text) = silent (In peers secure)
before_word peers secure command = anywhere (Awaits_word peers secure) command

-- the peer's command, where the login stands at that stage
abbrev pub reply_to : Terms → Stage → CommandText → Reply
reply_to t (Awaits_address offer) command = before_address t offer command
reply_to t (Awaits_password peers) command = before_password t peers command
reply_to t (Awaits_word peers secure) command = before_word peers secure command
