-- Worlds that differ in no own file of a store, nor outside, open to the same.
use Rattle.std.proofs.Common.{◌≡◌, ℕ, List, Option, inl, inr, refl, sym, ◌∙◌, ap, subst}
use Rattle.std.specs.Prelude.{option_map}
use Rattle.disk_model.specs.World as W
use Rattle.disk_model.specs.World.{World}
use Rattle.ledger_rec.specs.Fold.{State}
use Rattle.node_model.specs.StoreStates.{Shelf}
use Rattle.node_store.specs.Opening.{IsTidied, Recovers}
use Rattle.node_store.specs.Worlds.{LedgerOf, out_file_of, shelf_in, takes_in}
use Rattle.node_store.proofs.TakeWorld.{IsBeside, files_stay, ledger_stays, shelf_same}

module _ (d c : World) (beside : IsBeside d c) (takes : takes_in c ≡ takes_in d) (outside : c.outside ≡ d.outside) where
  same_ledger : (payloads : List (List ℕ)) → LedgerOf payloads d → LedgerOf payloads c
  same_ledger payloads (inl ledger) = inl (ledger_stays d c beside payloads ledger)
  same_ledger payloads (inr none) = inr (beside.ledger ∙ none.0, none.1)

  same_tidied : (s : State) → IsTidied (shelf_in d s) (shelf_in c s)
  same_tidied s =
      let same = shelf_same d c beside s in
      record {
        state = ap (λ (x : Shelf). x.state) same;
        recorded = refl;
        outside = λ path. inl (ap (λ (f : List ℕ → Option W.OutFile). option_map out_file_of (f path)) outside);
        gifts = ap (λ (x : Shelf). x.gifts) same;
        takes = λ name. inl (ap (λ (f : List ℕ → Option (List ℕ)). f name) takes);
      }

  pub other_recovers : Recovers d c
  other_recovers = λ shelf opens. (
    shelf_in c opens.state,
    record { payloads = opens.payloads; ledger = same_ledger opens.payloads opens.ledger; state = opens.state; folds = opens.folds; files = files_stay d c beside opens.state opens.files; is = refl },
    subst (λ (x : Shelf). IsTidied x (shelf_in c opens.state)) (sym opens.is) (same_tidied opens.state),
  )
