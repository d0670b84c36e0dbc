-- The `node` line (own).
use Rattle.std.specs.Prelude.{ℕ, ◌+◌, ◌==◌, Bool, ◌&&◌, ◌||◌, not, nat_lt, nat_eq, List, [], length, take, drop, filter, position, slice_get, codes, Option, Some, None, Result, Ok, if◌then◌else◌}
use Rattle.std.specs.Cmp.Lexicographic.{pointwise}
use Rattle.std.specs.List.{list_any, starts_with}
use Rattle.ftn_addr.specs.Address.{Address, same_address}
use Rattle.ftn_addr.specs.Outcomes.{◌>>=◌}
use Rattle.mail_conf.specs.Domain.{address_at}
use Rattle.mail_conf.specs.Values.{number_in, once, word_at}
use Rattle.mail_conf.specs.declared.cause.ConfCause.{ConfCause}

-- the settings of another node; an empty host or password stands for none
pub record NodeText : Type 0 where
  pub addr : Address
  pub host : List ℕ
  pub port : ℕ
  pub password : List ℕ

-- `-` and `*` alone are no host
abbrev pub is_none : List ℕ → Bool
is_none word = pointwise nat_eq word (codes "-") || pointwise nat_eq word (codes "*")

abbrev pub first_at : List ℕ → Option ℕ → List ℕ
first_at word None = word
first_at word (Some end) = take end word

-- of a list with `;` the first counts
abbrev pub first_host : List ℕ → List ℕ
first_host word = first_at word (position (λ b. b == 59) word)

abbrev pub port_behind : List ℕ → Option ℕ → Result (List ℕ × ℕ) ConfCause
port_behind text None = Ok (text, 24554)
port_behind text (Some end) = number_in (drop (end + 1) text) 1 65535 >>= λ port. Ok (take end text, port)

-- a host, and the port behind its first `:`
unfoldable pub host_and_port : List ℕ → Result (List ℕ × ℕ) ConfCause
host_and_port text = port_behind text (position (λ b. b == 58) text)

-- a host that is none has the port of binkp
unfoldable pub host_at : List ℕ → Result (List ℕ × ℕ) ConfCause
host_at word = if is_none (first_host word) then Ok ([], 24554) else host_and_port (first_host word)

abbrev pub host_or : Option (List ℕ) → Result (List ℕ × ℕ) ConfCause
host_or None = Ok ([], 24554)
host_or (Some word) = host_at word

-- the second word is the host
unfoldable pub host_word : List (List ℕ) → Result (List ℕ × ℕ) ConfCause
host_word words = host_or (slice_get words 1)

abbrev pub password_or : Option (List ℕ) → List ℕ
password_or None = []
password_or (Some word) = if pointwise nat_eq word (codes "-") then [] else word

-- the third word is the password, and `-` is none
abbrev pub password_word : List (List ℕ) → List ℕ
password_word words = password_or (slice_get words 2)

-- a word that begins with `-` and has more bytes
abbrev pub is_option : List ℕ → Bool
is_option word = nat_lt 1 (length word) && starts_with nat_eq word (codes "-")

abbrev pub without_options : List (List ℕ) → List (List ℕ)
without_options words = filter (λ word. not (is_option word)) words

-- the node that the words behind `node` set
unfoldable pub node_line : Address → List NodeText → List (List ℕ) → Result NodeText ConfCause
node_line home nodes words = do
  word ← word_at (without_options words) 0
  addr ← address_at home word
  free ← once (list_any (λ node. same_address addr node.addr) nodes)
  host ← host_word (without_options words)
  Ok (record { addr = addr; host = host.0; port = host.1; password = password_word (without_options words) })
