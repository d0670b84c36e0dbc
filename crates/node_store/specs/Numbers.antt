-- The numbers of a state's entries and receipts (own).
use Rattle.std.specs.Prelude.{◌≢◌, ℕ, List, [], ◌∷◌, map}
use Rattle.std.specs.List.{AllByRecursion}
use Rattle.ledger_rec.specs.Fold.{State}
use Rattle.ledger_rec.specs.Items.{Entry, Receipt}

-- no two of these are the same
abbrev pub AreDifferent : List ℕ → Type 0
AreDifferent [] = Unit {0}
AreDifferent (n ∷ ns) = AllByRecursion (λ k. n ≢ k) ns × AreDifferent ns

-- no two entries have one number, and no two receipts
pub record IsNumbered (s : State) : Type 0 where
  pub queue : AreDifferent (map (λ (e : Entry). e.number) s.queue)
  pub inbox : AreDifferent (map (λ (r : Receipt). r.number) s.inbox)
