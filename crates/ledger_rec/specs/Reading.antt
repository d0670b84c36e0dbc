-- Fields that are read from the front of bytes (own).
use Rattle.std.specs.Prelude.{ℕ, ◌==◌, ◌&&◌, nat_lt, nat_le, nat_eq, List, [], ◌∷◌, length, take, drop, Result, Ok, Err, if◌then◌else◌}
use Rattle.std.specs.Int.{w16, w32, w64, from_be_bytes}
use Rattle.std.specs.Cmp.Lexicographic.{pointwise}
use Rattle.ftn_addr.specs.Address.{Address}
use Rattle.ftn_addr.specs.Key.{Key}
use Rattle.ftn_addr.specs.Outcomes.{◌>>=◌}
use Rattle.ftn_addr.specs.Reading.{reading}
use Rattle.ftn_addr.specs.Writing.{canonical}
use Rattle.ftn_addr.specs.declared.reading.AddrFault.{AddrFault}
use Rattle.ledger_rec.specs.Record.{NewFileText, ReceivedText, RefusedText, MarkText, RecordText, Queue, Done, Received, Refused, Mark, Taken, Acted, Answered}
use Rattle.ledger_rec.specs.declared.fault.RecFault.{RecFault}
use Rattle.ledger_rec.specs.declared.fault.RecFault.TheVariants.{BadRecord}

-- what was read, and what is left behind it
abbrev pub Read : Type 0 → Type 0
Read X = Result (X × List ℕ) RecFault

-- so many bytes
unfoldable pub bytes_at : ℕ → List ℕ → Read (List ℕ)
bytes_at len bytes = if nat_lt (length bytes) len then Err BadRecord else Ok (take len bytes, drop len bytes)

abbrev pub within : ℕ → ℕ → ℕ → List ℕ → Read ℕ
within low high byte rest = if nat_le low byte && nat_le byte high then Ok (byte, rest) else Err BadRecord

-- a byte from low to high
unfoldable pub byte_at : ℕ → ℕ → List ℕ → Read ℕ
byte_at low high [] = Err BadRecord
byte_at low high (byte ∷ rest) = within low high byte rest

unfoldable pub short_at : List ℕ → Read ℕ
short_at bytes = do
  x ← bytes_at 2 bytes
  Ok (from_be_bytes w16 x.0, x.1)

unfoldable pub number_at : List ℕ → Read ℕ
number_at bytes = do
  x ← bytes_at 4 bytes
  Ok (from_be_bytes w32 x.0, x.1)

unfoldable pub wide_at : List ℕ → Read ℕ
wide_at bytes = do
  x ← bytes_at 8 bytes
  Ok (from_be_bytes w64 x.0, x.1)

-- an address whose canonical text this is
abbrev pub if_canonical : List ℕ → Result Address AddrFault → Result Address RecFault
if_canonical text (Ok a) = if pointwise nat_eq (canonical a) text then Ok a else Err BadRecord
if_canonical text (Err fault) = Err BadRecord

unfoldable pub canonical_at : Address → List ℕ → Result Address RecFault
canonical_at home text = if_canonical text (reading text home)

unfoldable pub address_at : Address → List ℕ → Read Address
address_at home bytes = do
  len ← byte_at 0 255 bytes
  text ← bytes_at len.0 len.1
  a ← canonical_at home text.0
  Ok (a, text.1)

unfoldable pub key_at : List ℕ → Read Key
key_at bytes = do
  len ← byte_at 1 200 bytes
  name ← bytes_at len.0 len.1
  size ← wide_at name.1
  time ← wide_at size.1
  Ok (record { name = name.0; size = size.0; time = time.0 }, time.1)

unfoldable pub path_at : List ℕ → Read (List ℕ)
path_at bytes = do
  len ← short_at bytes
  if nat_lt 1024 len.0 then Err BadRecord else bytes_at len.0 len.1

-- nothing stands behind it
abbrev pub if_last : {X : Type 0} → X → List ℕ → Result X RecFault
if_last x rest = if length rest == 0 then Ok x else Err BadRecord

unfoldable pub new_file_at : Address → List ℕ → Result NewFileText RecFault
new_file_at home bytes = do
  number ← number_at bytes
  dest ← address_at home number.1
  key ← key_at dest.1
  source ← path_at key.1
  action ← byte_at 0 2 source.1
  flavour ← byte_at 0 4 action.1
  if_last (record { number = number.0; dest = dest.0; key = key.0; source = source.0; action = action.0; flavour = flavour.0 }) flavour.1

unfoldable pub received_at : Address → List ℕ → Result ReceivedText RecFault
received_at home bytes = do
  receipt ← number_at bytes
  from ← address_at home receipt.1
  key ← key_at from.1
  session ← number_at key.1
  secure ← byte_at 0 1 session.1
  if_last (record { receipt = receipt.0; from = from.0; key = key.0; session = session.0; secure = secure.0 == 1 }) secure.1

unfoldable pub refused_at : Address → List ℕ → Result RefusedText RecFault
refused_at home bytes = do
  from ← address_at home bytes
  key ← key_at from.1
  session ← number_at key.1
  reason ← byte_at 1 2 session.1
  if_last (record { from = from.0; key = key.0; session = session.0; reason = reason.0 }) reason.1

unfoldable pub mark_at : Address → List ℕ → Result MarkText RecFault
mark_at home bytes = do
  part ← number_at bytes
  from ← address_at home part.1
  key ← key_at from.1
  len ← wide_at key.1
  if_last (record { part = part.0; from = from.0; key = key.0; len = len.0 }) len.1

unfoldable pub pair_at : List ℕ → Result (ℕ × ℕ) RecFault
pair_at bytes = do
  first ← number_at bytes
  second ← number_at first.1
  if_last (first.0, second.0) second.1

unfoldable pub one_at : List ℕ → Result ℕ RecFault
one_at bytes = do
  number ← number_at bytes
  if_last number.0 number.1

-- the fields of a kind
unfoldable pub fields_at : Address → ℕ → List ℕ → Result RecordText RecFault
fields_at home kind bytes =
    if kind == 1 then (new_file_at home bytes >>= λ r. Ok (Queue r))
    else if kind == 2 then (pair_at bytes >>= λ x. Ok (Done x.0 x.1))
    else if kind == 3 then (received_at home bytes >>= λ r. Ok (Received r))
    else if kind == 4 then (refused_at home bytes >>= λ r. Ok (Refused r))
    else if kind == 5 then (mark_at home bytes >>= λ r. Ok (Mark r))
    else if kind == 6 then (one_at bytes >>= λ n. Ok (Taken n))
    else if kind == 7 then (one_at bytes >>= λ n. Ok (Acted n))
    else if kind == 8 then (one_at bytes >>= λ n. Ok (Answered n))
    else Err BadRecord

unfoldable pub record_at : Address → List ℕ → Result RecordText RecFault
record_at home payload = do
  kind ← byte_at 0 255 payload
  fields_at home kind.0 kind.1
