-- The answer to a challenge (FTS-1027).
use Rattle.std.specs.Prelude.{ℕ, Bool, nat_eq, List, ◌++◌, drop, codes, if◌then◌else◌}
use Rattle.std.specs.Cmp.Lexicographic.{pointwise}
use Rattle.std.specs.List.{starts_with}
use Rattle.hex.specs.Hex.{encode_lower}
use Rattle.cram_md5.specs.Hmac.{hmac}
use Rattle.ftn_addr.specs.Case.{same_word}

-- `CRAM-MD5-` and the digest's digits; the password is the key and the challenge the text
abbrev pub answer : List ℕ → List ℕ → List ℕ
answer password challenge = codes "CRAM-MD5-" ++ encode_lower (hmac password challenge)

-- Behind `CRAM-MD5-` stand the digest's digits, in either case; what doesn't begin so is the password.
abbrev pub is_answer : List ℕ → List ℕ → List ℕ → Bool
is_answer password challenge given =
    if starts_with nat_eq given (codes "CRAM-MD5-") then same_word (drop 9 given) (encode_lower (hmac password challenge)) else pointwise nat_eq given password
