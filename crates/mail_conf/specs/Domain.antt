-- The `domain` line, and the home that addresses without a zone or a domain take (own).
use Rattle.std.specs.Prelude.{ℕ, Bool, false, not, ◌&&◌, nat_lt, List, [], ◌∷◌, map, slice_get, codes, Option, Some, None, Result, Ok, Err, if◌then◌else◌}
use Rattle.std.specs.Char.{to_ascii_lowercase}
use Rattle.std.specs.Result.{result_ok}
use Rattle.ftn_addr.specs.Address.{Address}
use Rattle.ftn_addr.specs.Domain.{is_domain}
use Rattle.ftn_addr.specs.Reading.{reading}
use Rattle.ftn_addr.specs.Case.{same_word}
use Rattle.ftn_addr.specs.Word.{words_of}
use Rattle.ftn_addr.specs.Outcomes.{◌>>=◌}
use Rattle.ftn_addr.specs.declared.limits.TheConstants.{MAX_ADDRESS_NUMBER}
use Rattle.mail_conf.specs.Values.{before_comment, number_in, once, word_at}
use Rattle.mail_conf.specs.declared.cause.ConfCause.{ConfCause}
use Rattle.mail_conf.specs.declared.cause.ConfCause.TheVariants.{BadAddress}

-- the domain of addresses that name none, the outbound's folder, and the zone
pub record DomainText : Type 0 where
  pub name : List ℕ
  pub base : List ℕ
  pub zone : ℕ

abbrev pub is_alias_word : Option (List ℕ) → Bool
is_alias_word None = false
is_alias_word (Some word) = same_word word (codes "alias-for")

-- the words behind `domain` are those of an alias
abbrev pub is_alias : List (List ℕ) → Bool
is_alias words = is_alias_word (slice_get words 1)

-- what the words behind `domain` set
unfoldable pub domain_line : Bool → List (List ℕ) → Result DomainText ConfCause
domain_line given words = do
  name ← word_at words 0
  base ← word_at words 1
  zone ← word_at words 2
  free ← once given
  if not (is_domain name) then Err BadAddress else (number_in zone 0 MAX_ADDRESS_NUMBER >>= λ n. Ok (record { name = map to_ascii_lowercase name; base = base; zone = n }))

-- the words of a `domain` line that names no alias, without the first
abbrev pub domain_words : List (List ℕ) → Option (List (List ℕ))
domain_words [] = None
domain_words (word ∷ words) = if same_word word (codes "domain") && not (is_alias words) then Some words else None

abbrev pub home_at : ℕ → List ℕ → Address
home_at zone domain = record { zone = zone; net = 0; node = 0; point = 0; domain = domain }

abbrev pub home_or : Result DomainText ConfCause → Address
home_or (Ok line) = home_at line.zone line.name
home_or (Err cause) = home_at 0 (codes "fidonet")

-- A bad line gives any home, as that line is told.
abbrev pub home_from : List (List ℕ) → Address
home_from words = home_or (domain_line false words)

abbrev pub home_with : Option (List (List ℕ)) → Address → Address
home_with None later = later
home_with (Some words) later = home_from words

-- The first `domain` line gives the home; without one it has a zone that no address has.
abbrev pub home_of : List (List ℕ) → Address
home_of [] = home_at 65535 (codes "fidonet")
home_of (line ∷ lines) = home_with (domain_words (words_of (before_comment line))) (home_of lines)

abbrev pub address_or : Option Address → Result Address ConfCause
address_or None = Err BadAddress
address_or (Some a) = if nat_lt MAX_ADDRESS_NUMBER a.zone then Err BadAddress else Ok a

-- the address of a word, with a zone of its own or that of the home
unfoldable pub address_at : Address → List ℕ → Result Address ConfCause
address_at home word = address_or (result_ok (reading word home))
