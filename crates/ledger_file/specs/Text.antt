-- The bytes of a ledger (own).
use Rattle.std.specs.Prelude.{◌≡◌, ◌≢◌, ℕ, ◌≤◌, ◌/◌, ◌%◌, List, [], ◌∷◌, ◌++◌, length, map, codes}
use Rattle.std.specs.Int.{w32, to_be_bytes}
use Rattle.std.specs.List.{AllByRecursion}
use Rattle.ftn_addr.specs.Content.{Content}

-- the bytes of each of these
abbrev pub lists : List Content → List (List ℕ)
lists = map (λ b. b.list)

-- a payload has 1 to 1,400 bytes
pub record IsPayload (payload : List ℕ) : Type 0 where
  pub some : 1 ≤ length payload
  pub most : length payload ≤ 1400

abbrev pub ArePayloads : List (List ℕ) → Type 0
ArePayloads = AllByRecursion IsPayload

-- `binkpldg`, the version, high byte first, and four bytes 0
abbrev pub header_of : ℕ → List ℕ
header_of version = codes "binkpldg" ++ to_be_bytes w32 version ++ 0 ∷ 0 ∷ 0 ∷ 0 ∷ []

abbrev pub header : List ℕ
header = header_of 1

-- a record is an open gate, the payload's length, high byte first, and the payload
abbrev pub record_of : List ℕ → List ℕ
record_of payload = 1 ∷ (length payload / 256) ∷ (length payload % 256) ∷ payload

abbrev pub records : List (List ℕ) → List ℕ
records [] = []
records (payload ∷ payloads) = record_of payload ++ records payloads

-- where the gate behind these stands
abbrev pub gate_of : List (List ℕ) → ℕ
gate_of payloads = length (header ++ records payloads)

-- These bytes are a ledger of these payloads: their records, at most 262,144, up to a gate that isn't open, with anything
-- behind it.
pub record Spells (payloads : List (List ℕ)) (bytes : List ℕ) : Type 0 where
  pub byte : ℕ
  pub rest : List ℕ
  pub is : bytes ≡ (header ++ records payloads) ++ byte ∷ rest
  pub shut : byte ≢ 1
  pub sizes : ArePayloads payloads
  pub few : length payloads ≤ 262144
