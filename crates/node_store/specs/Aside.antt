-- Own files that are none of the store's, as settings and a nodelist (own).
use Rattle.std.specs.Prelude.{◌≡◌, ◌≢◌, ℕ, false, List, None}
use Rattle.disk_model.specs.World.{World}
use Rattle.ledger_file.specs.Ledger.{ledger_name}
use Rattle.node_store.specs.Names.{in_name, is_note, out_name, take_number}
use Rattle.node_store.specs.Strays.{IsWork}

-- No own file of a store has that name: it isn't the ledger's, that of a file in the making, of a queued or a received file, of
-- a take, or of a note.
pub record IsAside (name : List ℕ) : Type 0 where
  pub ledger : name ≢ ledger_name
  pub work : IsWork name → ⊥
  pub queued : (number : ℕ) → name ≢ out_name number
  pub received : (number : ℕ) → name ≢ in_name number
  pub taken : take_number name ≡ None
  pub note : is_note name ≡ false

-- each own file with such a name is the same
abbrev pub SameAside : World → World → Type 0
SameAside d c = (name : List ℕ) → IsAside name → c.own name ≡ d.own name
