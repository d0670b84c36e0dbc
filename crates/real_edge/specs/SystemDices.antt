-- The challenges of the system's dice (own).
use Rattle.std.specs.Prelude.{ℕ, List}
use Rattle.std.specs.Int.{w64, to_be_bytes}
use Rattle.cram_md5.specs.Hmac.{hmac}

-- the challenge of that number: its digest, as eight bytes, under the key
abbrev pub challenge_at : List ℕ → ℕ → List ℕ
challenge_at key number = hmac key (to_be_bytes w64 number)
