-- The keeper's view while it takes in a list of passes.
use Rattle.std.proofs.Common.{◌≡◌, ℕ, suc, List, [], ◌∷◌, ◌++◌, map, All, length, refl, sym, ap, ◌∙◌, subst, arith}
use mathlib.Core.List.{append_assoc, append-nil}
use Rattle.atomic_table.specs.Table.{Me}
use Rattle.turn_gate.specs.declared.view.View.{View}
use Rattle.turn_gate.specs.declared.view.Joined.{Joined}
use Rattle.turn_gate.specs.Views.{keeper_view, joined_of, after_join}

module _ {P : Type 0} where
  pub all_rest : (Q : P → Type 0) (p : P) (rest before : List P) → before ≡ p ∷ rest → All Q before → All Q rest
  all_rest Q p rest before cut h = let g : All Q (p ∷ rest) = subst (All Q) cut h in λ k d l. g (suc k) d (omega arith)

  pub first_in : (Q : P → Type 0) (p : P) (rest before : List P) → before ≡ p ∷ rest → All Q before → Q p
  first_in Q p rest before cut h = let g : All Q (p ∷ rest) = subst (All Q) cut h in g 0 p (omega arith)

  pub zero_empty : (l : List P) → length l ≡ 0 → l ≡ []
  zero_empty [] e = refl
  zero_empty (y ∷ ys) e = absurd (omega arith)

module _ {P X S : Type 0} (f : P → Joined X) (x : X) (n : ℕ) where
  pub taken_in : (me new : Me S (View X)) (w : View X) (p : P) (rest before : List P) (all : List (Joined X)) → me ≡ (keeper_view x n me.0.joined, []) → new ≡ (after_join me.0 w, me.1) → joined_of w ≡ f p → before ≡ p ∷ rest
      → me.0.joined ++ map f before ≡ all → (new ≡ (keeper_view x n new.0.joined, [])) × (new.0.joined ++ map f rest ≡ all)
  taken_in me new w p rest before all kept is same cut whole =
      let os : List (Joined X) = me.0.joined in
      let e : new ≡ (keeper_view x n (os ++ joined_of w ∷ []), []) = is ∙ ap (λ (m : Me S (View X)). (after_join m.0 w, m.1)) kept in
      let o : new.0.joined ≡ os ++ joined_of w ∷ [] = ap (λ (m : Me S (View X)). m.0.joined) e in (
        e ∙ ap (λ (l : List (Joined X)). (keeper_view x n l, [])) (sym o),
        ap (λ (l : List (Joined X)). l ++ map f rest) o ∙ (append_assoc os (joined_of w ∷ []) (map f rest) ∙ (ap (λ (z : Joined X). os ++ z ∷ map f rest) same ∙ (ap (λ (l : List P). os ++ map f l) (sym cut) ∙ whole))),
      )

  pub all_taken : (me : Me S (View X)) (before : List P) (all : List (Joined X)) → me ≡ (keeper_view x n me.0.joined, []) → before ≡ [] → me.0.joined ++ map f before ≡ all → me ≡ (keeper_view x n all, [])
  all_taken me before all kept none whole = kept ∙ ap (λ (l : List (Joined X)). (keeper_view x n l, [])) (sym (append-nil me.0.joined) ∙ (ap (λ (l : List P). me.0.joined ++ map f l) (sym none) ∙ whole))

pub starts : {P X : Type 0} (f : P → Joined X) (os : List (Joined X)) (before passes : List P) → before ≡ passes → os ++ map f before ≡ os ++ map f passes
starts f os before passes same = ap (λ (l : List _). os ++ map f l) same
