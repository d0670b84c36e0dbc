-- Which receipts are kept once one more was given.
use Rattle.std.proofs.Common.{◌≡◌, inl, inr, ℕ, ◌==◌, Bool, true, false, not, ◌&&◌, List, [], ◌∷◌, ◌++◌, refl, sym, ◌∙◌, ap}
use Rattle.std.proofs.lemmas.Bool.{cases_eq}
use Rattle.std.proofs.lemmas.Bool.Decides.{Decides-eqb}
use Rattle.file_index.specs.Sets.{Kept}
use Rattle.file_index.specs.declared.sets.NumberSet.{NumberSet}
use Rattle.ledger_rec.specs.Items.{Receipt}
use Rattle.node_store.specs.Giving.{is_kept}
use Rattle.node_store.specs.Stored.{has_receipt}
use Rattle.node_store.proofs.GiftTold.{among_here, among_other}
use Rattle.node_store.proofs.GivenFiles.{and_false}
use Rattle.node_store.proofs.Mirrors.{eqb_apart}

and_alone : (a : Bool) → (a && true) ≡ a
and_alone true = refl
and_alone false = refl

pub kept_given : (new : NumberSet) (given : List ℕ) (inbox : List Receipt) (n : ℕ) → Kept new (λ k. is_kept given inbox k && not (k == n)) → Kept new (is_kept (given ++ n ∷ []) inbox)
kept_given new given inbox n kept whole k = kept whole k ∙ one
  where
    one : (is_kept given inbox k && not (k == n)) ≡ is_kept (given ++ n ∷ []) inbox k
    one = elim (cases_eq k n) [
      | inl same ↦
          ap (λ (b : Bool). is_kept given inbox k && not b) ((Decides-eqb k n).1 same) ∙ and_false (is_kept given inbox k)
          ∙ sym (ap (λ (b : Bool). has_receipt k inbox && not b) (among_here n k given same) ∙ and_false (has_receipt k inbox))
      | inr other ↦
          ap (λ (b : Bool). is_kept given inbox k && not b) (eqb_apart k n other) ∙ and_alone (is_kept given inbox k)
          ∙ sym (ap (λ (b : Bool). has_receipt k inbox && not b) (among_other n k given other))
    ]
