-- The greeting (FTS-1026, M_NUL and M_ADR; FTS-1027, the offer).
use Rattle.std.specs.Prelude.{ℕ, ◌+◌, ◌-◌, ◌==◌, nat_lt, nat_le, List, [], ◌∷◌, ◌++◌, length, take, codes, if◌then◌else◌}
use Rattle.ftn_addr.specs.Address.{Address}
use Rattle.ftn_addr.specs.Writing.{canonical}
use Rattle.binkp_args.specs.Command.{CommandText, Nul, Adr}
use Rattle.cram_md5.specs.Offer.{offer_spelling}
use Rattle.mail_conf.specs.Conf.{ConfText}
use Rattle.session_auth.specs.Moment.{moment_text}
use Rattle.session_auth.specs.Sides.{Side, Answers, Calls}

-- the answering side offers a challenge
abbrev pub offer_line : Side → List ℕ → List CommandText
offer_line Answers challenge = Nul (codes "OPT " ++ offer_spelling challenge) ∷ []
offer_line (Calls called) challenge = []

-- a setting that is given, of which 1,024 bytes at the most are sent (own)
abbrev pub setting_line : List ℕ → List ℕ → List CommandText
setting_line word text = if length text == 0 then [] else Nul (word ++ take 1024 text) ∷ []

-- the moment, up to 250,000,000,000 seconds after the start of 1970 (own)
abbrev pub time_line : ℕ → List CommandText
time_line now = if nat_lt 250000000000 now then [] else Nul (codes "TIME " ++ moment_text now) ∷ []

-- the addresses in their order, as long as their texts with a space behind each fit the room
abbrev pub fitting : ℕ → List Address → List Address
fitting room [] = []
fitting room (a ∷ more) = if nat_le (length (canonical a) + 1) room then a ∷ fitting (room - (length (canonical a) + 1)) more else []

-- the own addresses in an argument of 32,000 bytes at the most (own)
abbrev pub announced : List Address → List Address
announced addresses = fitting 32001 addresses

abbrev pub version : CommandText
version = Nul (codes "VER binkp_mailer/1.0 binkp/1.0")

-- all that is said at the start
abbrev pub greeting : Side → ConfText → List ℕ → ℕ → List CommandText
greeting side conf challenge now =
    offer_line side challenge ++ setting_line (codes "SYS ") conf.sysname ++ setting_line (codes "ZYZ ") conf.sysop ++ setting_line (codes "LOC ") conf.location ++ setting_line (codes "NDL ") conf.nodeinfo ++ time_line now ++ version ∷ Adr (announced conf.addresses) ∷ []
