-- The bytes of a record (own). Numbers are high byte first.
use Rattle.std.specs.Prelude.{◌≡◌, ℕ, Bool, List, [], ◌∷◌, ◌++◌, length, if◌then◌else◌}
use Rattle.std.specs.List.{AllByRecursion}
use Rattle.std.specs.Int.{w16, w32, w64, to_be_bytes}
use Rattle.ftn_addr.specs.Address.{Address}
use Rattle.ftn_addr.specs.Key.{Key}
use Rattle.ftn_addr.specs.Writing.{canonical}
use Rattle.ledger_rec.specs.Limits.{Fits, HasNumbers}
use Rattle.ledger_rec.specs.Record.{RecordText, Queue, Done, Received, Refused, Mark, Taken, Acted, Answered}

-- two bytes
abbrev pub short_bytes : ℕ → List ℕ
short_bytes n = to_be_bytes w16 n

-- four bytes
abbrev pub number_bytes : ℕ → List ℕ
number_bytes n = to_be_bytes w32 n

-- eight bytes
abbrev pub wide_bytes : ℕ → List ℕ
wide_bytes n = to_be_bytes w64 n

-- one byte of length, and the canonical text
abbrev pub address_bytes : Address → List ℕ
address_bytes a = length (canonical a) ∷ canonical a

-- one byte of length and the name, the size, the time
abbrev pub key_bytes : Key → List ℕ
key_bytes k = length k.name ∷ k.name ++ wide_bytes k.size ++ wide_bytes k.time

-- two bytes of length, and the path
abbrev pub path_bytes : List ℕ → List ℕ
path_bytes path = short_bytes (length path) ++ path

-- 0 or 1
abbrev pub flag_byte : Bool → ℕ
flag_byte flag = if flag then 1 else 0

abbrev pub kind_byte : RecordText → ℕ
kind_byte (Queue r) = 1
kind_byte (Done number session) = 2
kind_byte (Received r) = 3
kind_byte (Refused r) = 4
kind_byte (Mark r) = 5
kind_byte (Taken take) = 6
kind_byte (Acted number) = 7
kind_byte (Answered receipt) = 8

abbrev pub field_bytes : RecordText → List ℕ
field_bytes (Queue r) =
    number_bytes r.number ++ address_bytes r.dest ++ key_bytes r.key ++ path_bytes r.source ++ r.action ∷ r.flavour ∷ []
field_bytes (Done number session) = number_bytes number ++ number_bytes session
field_bytes (Received r) =
    number_bytes r.receipt ++ address_bytes r.from ++ key_bytes r.key ++ number_bytes r.session ++ flag_byte r.secure ∷ []
field_bytes (Refused r) = address_bytes r.from ++ key_bytes r.key ++ number_bytes r.session ++ r.reason ∷ []
field_bytes (Mark r) = number_bytes r.part ++ address_bytes r.from ++ key_bytes r.key ++ wide_bytes r.len
field_bytes (Taken take) = number_bytes take
field_bytes (Acted number) = number_bytes number
field_bytes (Answered receipt) = number_bytes receipt

-- the kind, and then the kind's fields
abbrev pub spelling : RecordText → List ℕ
spelling r = kind_byte r ∷ field_bytes r

-- these bytes are the record's, whose fields keep their limits
pub record Spells (r : RecordText) (payload : List ℕ) : Type 0 where
  pub text : payload ≡ spelling r
  pub fits : Fits r

-- no record has these bytes
abbrev pub SpellsNone : List ℕ → Type 0
SpellsNone payload = (r : RecordText) → HasNumbers r → Spells r payload → ⊥

-- records whose numbers and fields keep their limits
abbrev pub AreRecords : List RecordText → Type 0
AreRecords = AllByRecursion (λ (r : RecordText). HasNumbers r × Fits r)
