-- The offer of a challenge (FTS-1027).
use Rattle.std.specs.Prelude.{ℕ, ◌+◌, ◌==◌, Bool, ◌&&◌, nat_lt, nat_le, nat_eq, List, ◌++◌, length, take, drop, find, position, codes, Option, Some, None, option_and_then, if◌then◌else◌}
use Rattle.std.specs.List.{slice_split, starts_with, list_any}
use Rattle.std.specs.Result.{result_ok}
use Rattle.hex.specs.Hex.{decode_of, encode_lower}
use Rattle.ftn_addr.specs.Case.{same_word}

-- an offer without where its challenge lies in memory
pub data Offered : Type 0 where
  Absent : Offered
  Md5 : (challenge : List ℕ) → Offered
  Foreign : Offered
  Bad : Offered

-- the first of the words between spaces that begins with `CRAM-`
abbrev pub cram_word : List ℕ → Option (List ℕ)
cram_word options = find (λ word. starts_with nat_eq word (codes "CRAM-")) (slice_split (λ byte. byte == 32) options)

-- `MD5`, in either case, is among the names between `/`
abbrev pub names_md5 : List ℕ → Bool
names_md5 names = list_any (λ name. same_word name (codes "MD5")) (slice_split (λ byte. byte == 47) names)

-- 1 to 64 bytes (own)
abbrev pub short : List ℕ → Option (List ℕ)
short bytes = if nat_lt 0 (length bytes) && nat_le (length bytes) 64 then Some bytes else None

-- the 1 to 64 bytes that digits spell
abbrev pub bytes_of : List ℕ → Option (List ℕ)
bytes_of digits = option_and_then short (result_ok (decode_of digits))

-- a challenge for these algorithms
abbrev pub offer_for : List ℕ → Option (List ℕ) → Offered
offer_for names None = Bad
offer_for names (Some challenge) = if names_md5 names then Md5 challenge else Foreign

-- the names stand before the first `-` at this place, the digits behind it
abbrev pub offer_at : List ℕ → Option ℕ → Offered
offer_at word None = Bad
offer_at word (Some end) = offer_for (take end word) (bytes_of (drop (end + 1) word))

-- the offer of such a word, whose `CRAM-` was dropped
unfoldable pub offer_of_word : List ℕ → Offered
offer_of_word word = offer_at word (position (λ byte. byte == 45) word)

abbrev pub offer_in : Option (List ℕ) → Offered
offer_in None = Absent
offer_in (Some word) = offer_of_word (drop 5 word)

-- the offer in the text of an M_NUL, whose options stand behind `OPT `
abbrev pub offer_of : List ℕ → Offered
offer_of text = if starts_with nat_eq text (codes "OPT ") then offer_in (cram_word (drop 4 text)) else Absent

-- `CRAM-MD5-` and the digits of a challenge
abbrev pub offer_spelling : List ℕ → List ℕ
offer_spelling challenge = codes "CRAM-MD5-" ++ encode_lower challenge
