-- What a seat finds in the slot that it holds.
use Rattle.std.proofs.Common.{◌≡◌, ℕ, Bool, true, false, true≢false, List, [], ◌∷◌, Option, None, Some, sym, ap, ◌∙◌}

module _ {A : Type 0} where
  filled : Option A → Bool
  filled (Some x) = true
  filled None = false

  first_filled : List (ℕ × Option A) → Bool
  first_filled [] = false
  first_filled (p ∷ ps) = filled p.1

  -- an empty slot isn't a full one
  pub not_full : (found : Option A) (x : A) (carried rest : List (ℕ × Option A)) → carried ≡ (0, found) ∷ rest → carried ≡ (0, None) ∷ [] → found ≡ Some x → ⊥
  unfolding filled first_filled
  not_full found x carried rest has out is = true≢false (sym (ap filled is) ∙ (sym (ap first_filled has) ∙ ap first_filled out))
