-- Whose password is wanted, and which one is given (FTS-1026, M_PWD; FTS-1027).
use Rattle.std.specs.Prelude.{ℕ, ◌==◌, Bool, ◌||◌, not, nat_eq, List, [], length, map, filter, find, take, codes, Option, Some, None, if◌then◌else◌}
use Rattle.std.specs.Cmp.Lexicographic.{pointwise}
use Rattle.std.specs.List.{list_any}
use Rattle.ftn_addr.specs.Address.{Address, same_address}
use Rattle.cram_md5.specs.Answer.{answer}
use Rattle.cram_md5.specs.Offer.{Offered, Absent, Md5}
use Rattle.mail_conf.specs.Conf.{ConfText}
use Rattle.mail_conf.specs.Host.{NodeText}

-- an empty password is none
abbrev pub is_password : List ℕ → Bool
is_password password = not (length password == 0)

abbrev pub password_of : Option NodeText → List ℕ
password_of None = []
password_of (Some node) = node.password

-- the password that the settings have for an address
abbrev pub password_for : ConfText → Address → List ℕ
password_for conf a = password_of (find (λ node. same_address node.addr a) conf.nodes)

abbrev pub is_among : Address → List Address → Bool
is_among a addresses = list_any (same_address a) addresses

-- the addresses that are none of one's own
abbrev pub without_own : List Address → List Address → List Address
without_own own addresses = filter (λ a. not (is_among a own)) addresses

-- the password of the first of these addresses that has one
abbrev pub wanted_password : ConfText → List Address → Option (List ℕ)
wanted_password conf peers = find is_password (map (password_for conf) peers)

-- the address has that password, or none
abbrev pub shares : ConfText → List ℕ → Address → Bool
shares conf password a = not (is_password (password_for conf a)) || pointwise nat_eq (password_for conf a) password

-- an offer takes the place of an earlier one; a text without one doesn't
abbrev pub later_offer : Offered → Offered → Offered
later_offer offer Absent = offer
later_offer offer next = next

-- The answer to a challenge for MD5; else the password itself, of which 1,024 bytes at the most are sent (own).
abbrev pub hidden_password : List ℕ → Offered → List ℕ
hidden_password password (Md5 challenge) = answer password challenge
hidden_password password _ = take 1024 password

-- `-` stands for no password
abbrev pub spoken_password : List ℕ → Offered → List ℕ
spoken_password password offer = if is_password password then hidden_password password offer else codes "-"
