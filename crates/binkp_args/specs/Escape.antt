-- Names as words (own).
use Rattle.std.specs.Prelude.{ℕ, ◌+◌, ◌-◌, ◌*◌, ◌/◌, ◌%◌, ◌==◌, Bool, false, nat_lt, length, ◌&&◌, ◌||◌, List, [], ◌∷◌, slice_index, suc, zero, if◌then◌else◌}
use Rattle.std.specs.Char.{is_ascii_alphanumeric, is_ascii_hexdigit, digit_value}
use Rattle.std.specs.Fmt.{digit_glyph}
use Rattle.std.specs.List.{flat_map}

-- What is written plainly: letters, digits and `-_.!@#$%&()+=~`.
abbrev pub is_plain : ℕ → Bool
is_plain byte = is_ascii_alphanumeric byte || byte == 45 || byte == 95 || byte == 46 || byte == 33 || byte == 64 || byte == 35 || byte == 36 || byte == 37 || byte == 38 || byte == 40 || byte == 41 || byte == 43 || byte == 61 || byte == 126

-- itself, or `\x` and two digits in lower case
abbrev pub escaped_byte : ℕ → List ℕ
escaped_byte byte = if is_plain byte then byte ∷ [] else 92 ∷ 120 ∷ digit_glyph false (byte / 16) ∷ digit_glyph false (byte % 16) ∷ []

abbrev pub escaped : List ℕ → List ℕ
escaped name = flat_map escaped_byte name

-- `\x` and two hexadecimal digits stand at the front
abbrev pub is_long_escape : List ℕ → Bool
is_long_escape word = nat_lt 3 (length word) && slice_index word 0 == 92 && slice_index word 1 == 120 && is_ascii_hexdigit (slice_index word 2) && is_ascii_hexdigit (slice_index word 3)

-- `\` and two hexadecimal digits stand at the front
abbrev pub is_short_escape : List ℕ → Bool
is_short_escape word = nat_lt 2 (length word) && slice_index word 0 == 92 && is_ascii_hexdigit (slice_index word 1) && is_ascii_hexdigit (slice_index word 2)

-- the byte of two hexadecimal digits, the first of them at a place
abbrev pub digits_at : ℕ → List ℕ → ℕ
digits_at place word = 16 * digit_value (slice_index word place) + digit_value (slice_index word (place + 1))

-- the byte that the front of a word stands for
abbrev pub front_byte : List ℕ → ℕ
front_byte word = if is_long_escape word then digits_at 2 word else if is_short_escape word then digits_at 1 word else slice_index word 0

-- how many bytes of the word stand for it
abbrev pub front_len : List ℕ → ℕ
front_len word = if is_long_escape word then 4 else if is_short_escape word then 3 else 1

-- what a word stands for behind the bytes that are passed over
abbrev pub unescaped_behind : ℕ → List ℕ → List ℕ
unescaped_behind passed [] = []
unescaped_behind (suc passed) (byte ∷ word) = unescaped_behind passed word
unescaped_behind zero (byte ∷ word) = front_byte (byte ∷ word) ∷ unescaped_behind (front_len (byte ∷ word) - 1) word

-- The name that a word stands for. It is read once from the left: what an escape gives isn't read again.
abbrev pub unescaped : List ℕ → List ℕ
unescaped word = unescaped_behind 0 word
