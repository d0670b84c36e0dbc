-- What the laws of a login speak of.
use Rattle.std.specs.Prelude.{◌≡◌, ◌⊎◌, codes, Bool, true, false, ℕ, List, [], ◌∷◌, filter, Some, None}
use Rattle.ftn_addr.specs.Address.{Address}
use Rattle.binkp_args.specs.Command.{CommandText, Adr, Pwd}
use Rattle.cram_md5.specs.Answer.{answer, is_answer}
use Rattle.cram_md5.specs.Offer.{Offered}
use Rattle.session_auth.specs.Login.{Terms, Stage, Awaits_address, Awaits_password, Awaits_word, Step, More, In}
use Rattle.session_auth.specs.Passwords.{is_password, password_for, spoken_password, wanted_password}
use Rattle.session_auth.specs.Sides.{Calls}

-- the caller gave the password of the first of these addresses that has one
pub record IsChecked (t : Terms) (peers : List Address) (given : List ℕ) : Type 0 where
  pub password : List ℕ
  pub wanted : wanted_password t.conf peers ≡ Some password
  pub right : is_answer password t.challenge given ≡ true

-- secure where a password was checked, and not where none was wanted
abbrev pub SecureBy : Terms → List Address → List ℕ → Bool → Type 0
SecureBy t peers given true = IsChecked t peers given
SecureBy t peers given false = wanted_password t.conf peers ≡ None

-- the command is an M_PWD that lets in so
abbrev pub LetsInBy : Terms → List Address → CommandText → Bool → Type 0
LetsInBy t peers (Pwd given) secure = SecureBy t peers given secure
LetsInBy t peers command secure = ⊥

-- The node that was called has a password exactly where the login is secure, and M_PWD says it.
pub record IsSent (t : Terms) (offer : Offered) (said : List CommandText) (secure : Bool) : Type 0 where
  pub called : Address
  pub side : t.side ≡ Calls called
  pub said_is : said ≡ Pwd (spoken_password (password_for t.conf called) offer) ∷ []
  pub secure_is : secure ≡ is_password (password_for t.conf called)

-- some of these addresses, in their order
pub record AreSome (addresses peers : List Address) : Type 0 where
  pub stays : Address → Bool
  pub are : peers ≡ filter stays addresses

-- the addresses that a step keeps are some of these
abbrev pub KeepsSome : List Address → Step → Type 0
KeepsSome addresses (More (Awaits_password peers)) = AreSome addresses peers
KeepsSome addresses (More (Awaits_word peers secure)) = AreSome addresses peers
KeepsSome addresses (In peers secure) = AreSome addresses peers
KeepsSome addresses step = Unit {0}

-- the addresses at a stage, or in a command before them
abbrev pub addresses_at : Stage → List Address → List Address
addresses_at (Awaits_address offer) announced = announced
addresses_at (Awaits_password peers) announced = peers
addresses_at (Awaits_word peers secure) announced = peers

-- the addresses of an M_ADR
abbrev pub announced_by : CommandText → List Address
announced_by (Adr addresses) = addresses
announced_by command = []

-- `-`, or an answer to that challenge
abbrev pub IsHidden : List ℕ → List ℕ → Type 0
IsHidden challenge text = (text ≡ codes "-") ⊎ ((password : List ℕ) × (text ≡ answer password challenge))
