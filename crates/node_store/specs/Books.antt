-- A ledger in memory with its fold (own).
use Rattle.std.specs.Prelude.{◌≡◌, ℕ, ◌+◌, ◌≤◌, List, length, Some}
use Rattle.ledger_rec.specs.Fold.{Folding}
use Rattle.ledger_rec.specs.Payloads.{fold_of}

-- the ledger's payloads, and the places reserved in it; how many payloads it had at the opening, and the seat of each one
-- since; and the fold of all
pub record Books : Type 0 where
  pub payloads : List (List ℕ)
  pub reserved : ℕ
  pub opened : ℕ
  pub seats : List ℕ
  pub folding : Folding

-- The payloads leave this state, there is room to fold a record for each place, and each payload since the opening has a seat.
pub record IsBooks (b : Books) : Type 0 where
  pub folds : fold_of b.payloads ≡ Some b.folding.state
  pub room : b.reserved ≤ b.folding.room
  pub since : b.opened + length b.seats ≡ length b.payloads

-- the same records, whatever places are reserved and whatever room there is
pub record AreSame (b c : Books) : Type 0 where
  pub payloads : c.payloads ≡ b.payloads
  pub opened : c.opened ≡ b.opened
  pub seats : c.seats ≡ b.seats
  pub state : c.folding.state ≡ b.folding.state
  pub holds : c.folding.holds ≡ b.folding.holds
