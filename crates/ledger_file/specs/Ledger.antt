-- A ledger in memory, and what a stop may leave of its file (own).
use Rattle.std.specs.Prelude.{◌≡◌, ◌≢◌, ◌⊎◌, ℕ, List, [], ◌++◌, Some, codes}
use Rattle.disk_model.specs.Changes.{Only}
use Rattle.disk_model.specs.World.{World}
use Rattle.ledger_file.specs.Text.{Spells}

-- what contracts see of a `Ledger`: its payloads in order, and the places reserved
pub record Kept : Type 0 where
  pub payloads : List (List ℕ)
  pub reserved : ℕ

-- the name of the file, and its name while it is made
abbrev pub ledger_name : List ℕ
ledger_name = codes "ledger"

abbrev pub new_name : List ℕ
new_name = codes "ledger.new"

-- the ledger of this world has these payloads
abbrev pub LedgerIs : List (List ℕ) → World → Type 0
LedgerIs payloads w = (b : List ℕ) × (w.own ledger_name ≡ Some b) × Spells payloads b

-- nothing else changed, and the ledger has the old payloads, or the old and all the new
pub record Appends (old more : List (List ℕ)) (d c : World) : Type 0 where
  pub others : Only ledger_name d c
  pub ledger : LedgerIs old c ⊎ LedgerIs (old ++ more) c

-- a new ledger: beside the file in which it is made nothing else changed, and the ledger is as before, or has no payload
pub record Makes (d c : World) : Type 0 where
  pub others : (n : List ℕ) → n ≢ ledger_name → n ≢ new_name → c.own n ≡ d.own n
  pub outside : c.outside ≡ d.outside
  pub gifts : c.gifts ≡ d.gifts
  pub ledger : (c.own ledger_name ≡ d.own ledger_name) ⊎ LedgerIs [] c
