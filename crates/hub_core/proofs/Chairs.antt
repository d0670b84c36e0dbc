-- The seat with a number, among places of the code and after one of them changed.
use Rattle.std.proofs.Common.{◌≡◌, ◌⊎◌, ℕ, zero, suc, nat_lt, true, cond, count_by, fold, ◌+◌, inl, inr, ◌<◌, ◌≤◌, Bool, false, List, [], ◌∷◌, map, length, slice_index_or, refl, sym, arith}
use Rattle.std.proofs.lemmas.Bool.Decides.{Decides-ltb}
use borrow.Author.Tests.{ltb-false}
use Rattle.hub_core.specs.declared.places.Place.{Place}
use Rattle.hub_core.specs.Hubs.{Chair, chair_of, chair_in, empty_chair}
use Rattle.hub_core.specs.Steps.{chair_answers, place_answers}

pub chair_in-map : (places : List Place) (k : ℕ) (p : Place) → k < length places → chair_in (map chair_of places) k ≡ chair_of (slice_index_or places k p)
chair_in-map [] k p below = absurd (omega arith)
chair_in-map (x ∷ places) zero p below = refl
chair_in-map (x ∷ places) (suc k) p below = chair_in-map places k p (omega arith)

pub chair_in-end : (places : List Place) (k : ℕ) → length places ≤ k → chair_in (map chair_of places) k ≡ empty_chair
chair_in-end [] k above = refl
chair_in-end (x ∷ places) zero above = absurd (omega arith)
chair_in-end (x ∷ places) (suc k) above = chair_in-end places k (omega arith)

pub below_or : (k n : ℕ) → (k < n) ⊎ (n ≤ k)
below_or k n = go (nat_lt k n) refl
  where
    go : (b : Bool) → nat_lt k n ≡ b → (k < n) ⊎ (n ≤ k)
    go true is = inl ((Decides-ltb k n).0 is)
    go false is = inr (omega (arith, ltb-false k n is))

-- how many answer

pub fold_map : {A B C : Type 0} (f : C → B → C) (g : A → B) (a : C) (xs : List A) → fold f a (map g xs) ≡ fold (λ c x. f c (g x)) a xs
fold_map f g a [] = refl
fold_map f g a (x ∷ xs) = fold_map f g (f a (g x)) xs

pub answering_places : (ps : List Place) → count_by place_answers ps ≡ count_by chair_answers (map chair_of ps)
unfolding place_answers
answering_places ps = sym (fold_map (λ (n : ℕ) (c : Chair). n + cond (chair_answers c) 1 0) chair_of 0 ps)
