-- A file is made durable, and then a record of it (own).
use Rattle.std.specs.Prelude.{◌≡◌, ◌⊎◌, ℕ, ◌-◌, List, [], ◌∷◌, ◌++◌, Some}
use Rattle.disk_model.specs.Changes.{Only, SameAt}
use Rattle.disk_model.specs.World.{World}
use Rattle.ledger_file.specs.Ledger.{ledger_name, LedgerIs}
use Rattle.ledger_rec.specs.Fold.{fold_step}
use Rattle.ledger_rec.specs.Record.{RecordText}
use Rattle.node_store.specs.Books.{Books}

-- the file is as it was read
abbrev pub IsSynced : (World → Type 0) → List ℕ → World → Type 0
IsSynced read name c = (f : World) × read f × SameAt name f c

-- What a stop may leave: nothing but the ledger changed. It has the old payloads; or it has the new ones too, and then the file
-- is as it was read.
pub record Records (read : World → Type 0) (name : List ℕ) (old more : List (List ℕ)) (d c : World) : Type 0 where
  pub others : Only ledger_name d c
  pub ledger : LedgerIs old c ⊎ (LedgerIs (old ++ more) c × IsSynced read name c)

-- One record more: its payload stands behind the others, it is folded, its seat is noted, and it used a place.
pub record IsRecorded (payload : List ℕ) (r : RecordText) (seat : ℕ) (old new : Books) : Type 0 where
  pub payloads : new.payloads ≡ old.payloads ++ payload ∷ []
  pub places : new.reserved ≡ old.reserved - 1
  pub opened : new.opened ≡ old.opened
  pub seats : new.seats ≡ old.seats ++ seat ∷ []
  pub folded : fold_step old.folding.state r ≡ Some new.folding.state
  pub holds : new.folding.holds ≡ old.folding.holds
