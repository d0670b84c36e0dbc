-- Bytes that are read from the front (own).
use Rattle.std.specs.Prelude.{ℕ, ◌+◌, ◌*◌, ◌/◌, ◌%◌, ◌==◌, ◌&&◌, nat_lt, nat_le, nat_eq, List, [], ◌∷◌, length, take, drop, codes, Result, Ok, Err, if◌then◌else◌}
use Rattle.std.specs.List.{common_prefix_len}
use Rattle.ftn_addr.specs.Outcomes.{◌>>=◌}
use Rattle.nodelist_find.specs.declared.fault.IndexFault.{IndexFault}
use Rattle.nodelist_find.specs.declared.fault.IndexFault.TheVariants.{Bad}

-- what is left of the bytes, and the offset of its first byte
pub record Left : Type 0 where
  pub place : ℕ
  pub rest : List ℕ

-- the bytes begin with `nodeidx1`
unfoldable pub after_magic : List ℕ → Result Left IndexFault
after_magic bytes =
    if nat_lt (common_prefix_len nat_eq bytes (codes "nodeidx1")) 8 then Err (Bad (common_prefix_len nat_eq bytes (codes "nodeidx1"))) else Ok (record { place = 8; rest = drop 8 bytes })

abbrev pub byte_of : ℕ → List ℕ → Result (ℕ × Left) IndexFault
byte_of place [] = Err (Bad place)
byte_of place (byte ∷ rest) = Ok (byte, record { place = place + 1; rest = rest })

unfoldable pub byte_at : Left → Result (ℕ × Left) IndexFault
byte_at left = byte_of left.place left.rest

-- the numbers from one to another
pub record Span : Type 0 where
  pub low : ℕ
  pub high : ℕ

-- a byte of these
unfoldable pub byte_in : Span → Left → Result (ℕ × Left) IndexFault
byte_in span left = do
  x ← byte_at left
  if nat_le span.low x.0 && nat_le x.0 span.high then Ok x else Err (Bad left.place)

-- the high bytes of the numbers
abbrev pub high_bytes : Span → Span
high_bytes span = record { low = span.low / 256; high = span.high / 256 }

-- the low bytes of those numbers that have this high byte
abbrev pub low_bytes : Span → ℕ → Span
low_bytes span high = record { low = if high == span.low / 256 then span.low % 256 else 0; high = if high == span.high / 256 then span.high % 256 else 255 }

-- A number of these in two bytes. The byte is told from which on it is none of them.
unfoldable pub number_in : Span → Left → Result (ℕ × Left) IndexFault
number_in span left = do
  high ← byte_in (high_bytes span) left
  low ← byte_in (low_bytes span high.0) high.1
  Ok (high.0 * 256 + low.0, low.1)

-- so many bytes
unfoldable pub bytes_at : ℕ → Left → Result (List ℕ × Left) IndexFault
bytes_at len left =
    if nat_lt (length left.rest) len then Err (Bad (left.place + length left.rest)) else Ok (take len left.rest, record { place = left.place + len; rest = drop len left.rest })
