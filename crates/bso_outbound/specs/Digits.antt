-- Numbers in hexadecimal digits, in lower case (FTS-5005).
use Rattle.std.specs.Prelude.{ℕ, nat_lt, List, ◌++◌, drop, codes, if◌then◌else◌}
use Rattle.std.specs.Int.{w16, to_be_bytes}
use Rattle.hex.specs.Hex.{encode_lower}

-- four digits: two for each byte of the number, the high byte first
unfoldable pub four_digits : ℕ → List ℕ
four_digits n = encode_lower (to_be_bytes w16 n)

-- eight digits of a number that four hold
abbrev pub eight_digits : ℕ → List ℕ
eight_digits n = codes "0000" ++ four_digits n

-- at least three digits: four, without the first where it would be 0
abbrev pub three_digits_or_more : ℕ → List ℕ
three_digits_or_more n = if nat_lt n 4096 then drop 1 (four_digits n) else four_digits n
