-- What a session is lent, how far it has come, and its login (FTS-1026, session stages).
use Rattle.std.specs.Prelude.{ℕ, true, false, List, [], ◌∷◌, Option, Some, None}
use Rattle.ftn_addr.specs.Address.{Address}
use Rattle.cram_md5.specs.Offer.{Absent}
use Rattle.mail_conf.specs.Conf.{ConfText}
use Rattle.node_model.specs.declared.words.Role.{Role}
use Rattle.node_model.specs.declared.words.Role.TheVariants as R
use Rattle.node_model.specs.Calls.{Call, Open_call, Answer, Begun, Event}
use Rattle.node_model.specs.Desks.{DeskPart}
use Rattle.node_model.specs.Talk.{Talk, Part}
use Rattle.session_auth.specs.Login.{Stage as LoginStage, Awaits_address}
use Rattle.session_auth.specs.Sides.{Side, Answers, Calls}
use Rattle.session_send.specs.Senders.{claim_of, sent_after, skipped_after}
use Rattle.session_recv.specs.Replies.{received_after}

abbrev pub role_of : Side → Role
role_of Answers = R.Answers
role_of (Calls called) = R.Calls

-- the home is the first own address; settings have one
abbrev pub home_of : List Address → Address
home_of [] = record { zone = 0; net = 0; node = 0; point = 0; domain = [] }
home_of (home ∷ others) = home

-- what a session is lent: its side, the settings, the challenge that it offers, its home, the moment, the most bytes that it
-- takes and writes, and the most bytes of data in a frame
pub record Setting : Type 0 where
  pub side : Side
  pub conf : ConfText
  pub challenge : List ℕ
  pub home : Address
  pub moment : ℕ
  pub limit : ℕ
  pub block : ℕ

-- the home, the limit and the block are those of the settings
abbrev pub setting_of : Side → ConfText → List ℕ → ℕ → Setting
setting_of side conf challenge now =
    record { side = side; conf = conf; challenge = challenge; home = home_of conf.addresses; moment = now; limit = conf.session_limit; block = conf.block }

-- at its login; and after it, with the file that is held
pub data Stage : Type 0 where
  Logs_in : (at : LoginStage) → Stage
  Talks : (talk : Talk) (held : Option Part) → Stage

-- before the peer's addresses, with no offer of the peer's
abbrev pub at_first : Stage
at_first = Logs_in (Awaits_address Absent)

-- what the desk has of a session at that stage
abbrev pub desk_part : Stage → DeskPart
desk_part (Logs_in at) = record { open_now = false; claim = None; held = None }
desk_part (Talks talk held) = record { open_now = true; claim = claim_of talk.sending; held = held }

-- the session's number at its desk, and the peer's first address
pub record Login : Type 0 where
  pub number : ℕ
  pub peer : Address

-- the first of the peer's addresses
abbrev pub logged_in : Option Login → ℕ → List Address → Option Login
logged_in old number [] = old
logged_in old number (peer ∷ others) = Some (record { number = number; peer = peer })

-- the login after a call
abbrev pub login_after : Option Login → Call → Answer → Option Login
login_after old (Open_call role peers secure moment) (Begun number) = logged_in old number peers
login_after old call answer = old

-- files that the peer acknowledged, receipts made, and files that the peer left to a later session, each counted up to the
-- end of 32 bits
pub record Tally : Type 0 where
  pub sent : ℕ
  pub received : ℕ
  pub skipped : ℕ

abbrev pub nothing_yet : Tally
nothing_yet = record { sent = 0; received = 0; skipped = 0 }

abbrev pub tally_after : Tally → Call → Answer → Tally
tally_after t call answer =
    record { sent = sent_after t.sent call answer; received = received_after t.received call answer; skipped = skipped_after t.skipped call answer }

abbrev pub tally_along : Tally → List Event → Tally
tally_along t [] = t
tally_along t (e ∷ es) = tally_along (tally_after t e.call e.answer) es

-- what a session tells of itself: its login, and what it has counted
pub record Told : Type 0 where
  pub login : Option Login
  pub tally : Tally

abbrev pub untold : Told
untold = record { login = None; tally = nothing_yet }

abbrev pub told_after : Told → Call → Answer → Told
told_after t call answer = record { login = login_after t.login call answer; tally = tally_after t.tally call answer }

abbrev pub told_along : Told → List Event → Told
told_along t [] = t
told_along t (e ∷ es) = told_along (told_after t e.call e.answer) es
