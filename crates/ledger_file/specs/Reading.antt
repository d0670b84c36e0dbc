-- What an opening says of the bytes of a ledger (own).
use Rattle.std.specs.Prelude.{◌≡◌, ◌≢◌, ◌⊎◌, ℕ, ◌<◌, ◌≤◌, ◌^◌, List, [], ◌∷◌, ◌++◌, length, Some, Result, Ok, Err}
use Rattle.disk_model.specs.World.{World}
use Rattle.ledger_file.specs.Ledger.{ledger_name}
use Rattle.ledger_file.specs.Text.{IsPayload, ArePayloads, header_of, header, record_of, records, gate_of, Spells}
use Rattle.ledger_file.specs.declared.fault.OpenFault.{OpenFault}
use Rattle.ledger_file.specs.declared.fault.OpenFault.TheVariants.{Disk, NotLedger, Version, Cut, Over, NoMemory}

-- no version's header stands at the front
abbrev pub IsNoLedger : List ℕ → Type 0
IsNoLedger bytes = (version : ℕ) (rest : List ℕ) → version < 2 ^ 32 → bytes ≢ header_of version ++ rest

-- the header of another version stands at the front
pub record IsOfVersion (version : ℕ) (bytes : List ℕ) : Type 0 where
  pub rest : List ℕ
  pub is : bytes ≡ header_of version ++ rest
  pub number : version < 2 ^ 32
  pub other : version ≢ 1

-- an open gate that begins no record: the file ends inside it, or its length is 0 or over 1,400
pub record IsBroken (bytes : List ℕ) : Type 0 where
  pub rest : List ℕ
  pub open_gate : bytes ≡ 1 ∷ rest
  pub none : (payload more : List ℕ) → IsPayload payload → bytes ≢ record_of payload ++ more

-- behind some records, at most 262,144, the file ends where a gate is due, or a broken record stands there
pub record IsCut (place : ℕ) (bytes : List ℕ) : Type 0 where
  pub payloads : List (List ℕ)
  pub tail : List ℕ
  pub is : bytes ≡ (header ++ records payloads) ++ tail
  pub sizes : ArePayloads payloads
  pub few : length payloads ≤ 262144
  pub at : place ≡ gate_of payloads
  pub ends : (tail ≡ []) ⊎ ((length payloads < 262144) × IsBroken tail)

-- one more open gate stands behind 262,144 records
pub record IsOver (place : ℕ) (bytes : List ℕ) : Type 0 where
  pub payloads : List (List ℕ)
  pub rest : List ℕ
  pub is : bytes ≡ (header ++ records payloads) ++ 1 ∷ rest
  pub sizes : ArePayloads payloads
  pub many : length payloads ≡ 262144
  pub at : place ≡ gate_of payloads

-- The payloads that these bytes spell, or why they spell none. Want of memory and a failing disk are no reading.
abbrev pub Reads : Result (List (List ℕ)) OpenFault → List ℕ → Type 0
Reads (Ok payloads) bytes = Spells payloads bytes
Reads (Err NotLedger) bytes = IsNoLedger bytes
Reads (Err (Version version)) bytes = IsOfVersion version bytes
Reads (Err (Cut place)) bytes = IsCut place bytes
Reads (Err (Over place)) bytes = IsOver place bytes
Reads (Err Disk) bytes = ⊥
Reads (Err NoMemory) bytes = ⊥

-- the ledger of this world has bytes that are refused so
abbrev pub Refuses : OpenFault → World → Type 0
Refuses fault w = (bytes : List ℕ) × (w.own ledger_name ≡ Some bytes) × Reads (Err fault) bytes

-- bytes have one reading at most
abbrev pub OneReading : Type 0
OneReading = (one two : Result (List (List ℕ)) OpenFault) (bytes : List ℕ) → Reads one bytes → Reads two bytes → one ≡ two
