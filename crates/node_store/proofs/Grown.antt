-- A list that is changed item by item from its front.
use Rattle.std.proofs.Common.{◌≡◌, ℕ, zero, suc, ◌+◌, ◌<◌, ◌≤◌, List, [], ◌∷◌, ◌++◌, length, map, take, drop, get_or, set, refl, sym, ◌∙◌, ap, subst, arith}
use Rattle.std.specs.List.{AllByRecursion}

module _ {A : Type 0} (g : A → A) where
  pub seam : (xs : List A) (i : ℕ) (x : A) → i < length xs → get_or (map g (take i xs) ++ drop i xs) i x ≡ get_or xs i x
  seam [] i x lt = absurd (omega (arith, lt))
  seam (z ∷ zs) zero x lt = refl
  seam (z ∷ zs) (suc i) x lt = seam zs i x (omega (arith, lt))

  pub set_seam : (xs : List A) (i : ℕ) (x : A) → i < length xs → x ≡ get_or xs i x → set (map g (take i xs) ++ drop i xs) i (g x) ≡ map g (take (i + 1) xs) ++ drop (i + 1) xs
  set_seam [] i x lt is = absurd (omega (arith, lt))
  set_seam (z ∷ zs) zero x lt is = ap (λ (y : A). g y ∷ zs) is
  set_seam (z ∷ zs) (suc i) x lt is =
      ap (λ (l : List A). g z ∷ l) (set_seam zs i x (omega (arith, lt)) is)
      ∙ ap (λ (k : ℕ). map g (take k (z ∷ zs)) ++ drop k (z ∷ zs)) (let k : suc (i + 1) ≡ suc i + 1 = omega arith in k)

  pub all_done : (xs : List A) (i : ℕ) → length xs ≤ i → map g (take i xs) ++ drop i xs ≡ map g xs
  all_done [] zero le = refl
  all_done [] (suc i) le = refl
  all_done (x ∷ xs) zero le = absurd (omega (arith, le))
  all_done (x ∷ xs) (suc i) le = ap (λ (l : List A). g x ∷ l) (all_done xs i (omega (arith, le)))

pub all_at : {A : Type 0} (P : A → Type 0) (xs : List A) (i : ℕ) (x : A) → AllByRecursion P xs → i < length xs → x ≡ get_or xs i x → P x
all_at P [] i x all within is = absurd (omega (arith, within))
all_at P (y ∷ ys) zero x all within is = subst P (sym is) all.0
all_at P (y ∷ ys) (suc i) x all within is = all_at P ys i x all.1 (omega (arith, within)) is
