-- The bytes of a ledger in memory (own).
use Rattle.std.specs.Prelude.{◌≡◌, ℕ, ◌+◌, ◌*◌, List, [], ◌∷◌, ◌++◌, length, take, drop, slice_index}
use Rattle.ledger_file.specs.Text.{ArePayloads, header, record_of, records}

-- what contracts see of `Records`: the payloads, how many more bytes of records fit, and how many more records
pub record Held : Type 0 where
  pub payloads : List (List ℕ)
  pub spare : ℕ
  pub slots : ℕ

-- the payload of the record whose gate stands there
abbrev pub payload_at : List ℕ → ℕ → List ℕ
payload_at text gate = take (slice_index text (gate + 1) * 256 + slice_index text (gate + 2)) (drop (gate + 3) text)

-- the gates of records that begin at that place
abbrev pub gates_from : ℕ → List (List ℕ) → List ℕ
gates_from place [] = []
gates_from place (payload ∷ payloads) = place ∷ gates_from (place + length (record_of payload)) payloads

-- the bytes are a ledger of these payloads with a closed gate at the end, and the places are those of the records' gates
pub record IsText (payloads : List (List ℕ)) (bytes places : List ℕ) : Type 0 where
  pub text : bytes ≡ (header ++ records payloads) ++ 0 ∷ []
  pub gates : places ≡ gates_from 16 payloads
  pub sizes : ArePayloads payloads
