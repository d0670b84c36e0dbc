-- The values of a line: texts, paths and numbers (own).
use Rattle.std.specs.Prelude.{ℕ, ◌-◌, ◌==◌, Bool, ◌&&◌, nat_le, nat_lt, List, length, take, drop, slice_index, slice_get, position, Option, Some, None, Result, Ok, Err, if◌then◌else◌}
use Rattle.ftn_addr.specs.Digits.{saturated_number}
use Rattle.ftn_addr.specs.Blanks.{trimmed}
use Rattle.ftn_addr.specs.Outcomes.{◌>>=◌}
use Rattle.mail_conf.specs.declared.cause.ConfCause.{ConfCause}
use Rattle.mail_conf.specs.declared.cause.ConfCause.TheVariants.{MissingWord, BadNumber, Twice}

abbrev pub before_at : List ℕ → Option ℕ → List ℕ
before_at line None = line
before_at line (Some mark) = take mark line

-- A comment begins at the first `#`, within quotes too.
abbrev pub before_comment : List ℕ → List ℕ
before_comment line = before_at line (position (λ byte. byte == 35) line)

-- a text of two bytes at least that begins and ends with a quote loses these two
abbrev pub unquoted : List ℕ → List ℕ
unquoted text =
    if nat_lt 1 (length text) && slice_index text 0 == 34 && slice_index text (length text - 1) == 34 then take (length text - 2) (drop 1 text) else text

abbrev pub or_missing : Option (List ℕ) → Result (List ℕ) ConfCause
or_missing None = Err MissingWord
or_missing (Some word) = Ok word

-- the word at a place, counted from 0
unfoldable pub word_at : List (List ℕ) → ℕ → Result (List ℕ) ConfCause
word_at words i = or_missing (slice_get words i)

-- what is set already is refused
abbrev pub once : Bool → Result (Unit {0}) ConfCause
once given = if given then Err Twice else Ok tt

-- the text of a line, the blanks at its ends left out
unfoldable pub text_of : Bool → List ℕ → Result (List ℕ) ConfCause
text_of given rest =
    if length (trimmed rest) == 0 then Err MissingWord else (once given >>= λ _. Ok (unquoted (trimmed rest)))

-- the one word of a line
unfoldable pub word_once : Bool → List (List ℕ) → Result (List ℕ) ConfCause
word_once given words = do
  word ← word_at words 0
  free ← once given
  Ok word

abbrev pub number_or : Option ℕ → ℕ → ℕ → Result ℕ ConfCause
number_or None low high = Err BadNumber
number_or (Some number) low high = if nat_le low number && nat_le number high then Ok number else Err BadNumber

-- a number within a range
unfoldable pub number_in : List ℕ → ℕ → ℕ → Result ℕ ConfCause
number_in digits low high = number_or (saturated_number digits) low high

-- the one number of a line
unfoldable pub number_once : Bool → List (List ℕ) → ℕ → ℕ → Result ℕ ConfCause
number_once given words low high = do
  digits ← word_at words 0
  free ← once given
  number_in digits low high
