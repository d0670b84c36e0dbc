-- HMAC-MD5 (RFC 2104, section 2).
use Rattle.std.specs.Prelude.{ℕ, ◌-◌, nat_lt, List, ◌++◌, length, map, replicate, bit_xor, if◌then◌else◌}
use Rattle.md5.specs.Md5.{md5}

-- A key of at most 64 bytes stands for itself, a longer one for its digest.
abbrev pub short_key : List ℕ → List ℕ
short_key key = if nat_lt 64 (length key) then md5 key else key

-- the key with zeros up to 64 bytes
abbrev pub padded : List ℕ → List ℕ
padded key = short_key key ++ replicate (64 - length (short_key key)) 0

-- MD5 (key xor opad, MD5 (key xor ipad, text)), where opad is the byte 0x5c and ipad the byte 0x36, repeated
abbrev pub hmac : List ℕ → List ℕ → List ℕ
hmac key text = md5 (map (λ byte. bit_xor byte 0x5c) (padded key) ++ md5 (map (λ byte. bit_xor byte 0x36) (padded key) ++ text))
