-- The numbers of queued and of staged files were drawn.
use Rattle.std.proofs.Common.{ℕ, ◌≤◌, List, [], ◌∷◌, map}
use Rattle.std.specs.List.{AllByRecursion}
use Rattle.ledger_rec.specs.Fold.{State}
use Rattle.ledger_rec.specs.Items.{Entry}
use Rattle.node_model.specs.Items.{EntryOf}
use Rattle.node_model.specs.Lists.{Each}
use Rattle.node_model.specs.Stocks.{StagedOf}
use Rattle.node_store.specs.Contents.{Contents, entry_by}
use Rattle.node_store.specs.Stored.{IsPut, Put, staged_by}

module _ {B : Type 0} (c : Contents B) (last : ℕ) where
  pub queued_drawn : (es : List Entry) → AllByRecursion (λ (e : Entry). e.number ≤ last) es → Each (λ (e : EntryOf B). e.number ≤ last) (map (entry_by c) es)
  queued_drawn [] all = tt
  queued_drawn (e ∷ es) all = (all.0, queued_drawn es all.1)

  pub staged_drawn : (s : State) (ps : List Put) → AllByRecursion (IsPut last s) ps → Each (λ (p : StagedOf B). p.number ≤ last) (map (staged_by c) ps)
  staged_drawn s [] all = tt
  staged_drawn s (p ∷ ps) all = (all.0.drawn, staged_drawn s ps all.1)
