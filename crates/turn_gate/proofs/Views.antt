-- The views of a table, after one of them changed.
use Rattle.std.proofs.Common.{◌≡◌, ◌≢◌, ℕ, zero, true, true≢false, List, [], ◌∷◌, length, set, Option, refl, sym, ap, ◌∙◌, subst, ⊎_elim, arith, suc}
use mathlib.Core.Option as maybe
use mathlib.Core.Option.{some-injective}
use lib.ListN.{get_elem?}
use Rattle.atomic_table.specs.Table.{State}
use Rattle.atomic_table.proofs.Lists.{at_set}
use Rattle.turn_gate.specs.declared.view.View.{View}
use Rattle.turn_gate.specs.declared.view.Counted.{Counted}
use Rattle.turn_gate.specs.Rule.{At, IsKept}

pub set_at : {A : Type 0} (l : List A) (i : ℕ) (a b : A) → get_elem? l i ≡ maybe.some a → get_elem? (set l i b) i ≡ maybe.some b
set_at [] i a b e = absurd (maybe.some-ne-none a (sym e))
set_at (x ∷ xs) zero a b e = refl
set_at (x ∷ xs) (suc i) a b e = set_at xs i a b e

pub one_home : {A : Type 0} (l : List A) (a : A) → length l ≡ 1 → set l 0 a ≡ a ∷ []
one_home [] a e = absurd (omega arith)
one_home (x ∷ []) a e = refl
one_home (x ∷ y ∷ ys) a e = absurd (omega arith)

-- a seat that is live is not the keeper
pub not_first : {T X : Type 0} {state : T → X} {Turns : ℕ → X → X → Type 0} {first : X} {seats : ℕ} (s : State (Option (Counted T)) (View X)) (r : IsKept state Turns first seats s) (id : ℕ) (v : View X) → At s.views id v → v.live ≡ true → id ≢ 0
not_first s r id v at live e = true≢false (sym live ∙ (ap (λ z. z.live) (some-injective v r.keeper (sym at ∙ (ap (get_elem? s.views) e ∙ r.keeper_at))) ∙ r.keeper_idle))

-- each view after a step of the seat id
pub each : {X : Type 0} (F : ℕ → View X → Type 0) (vs : List (View X)) (id : ℕ) (w : View X) → F id w → ((j : ℕ) (u : View X) → j ≢ id → At vs j u → F j u) → (j : ℕ) (u : View X) → At (set vs id w) j u → F j u
each {X} F vs id w mine others j u at = ⊎_elim (λ (t : (j ≡ id) × (w ≡ u)). subst (λ (z : ℕ × View X). F z.0 z.1) (λ i. (sym t.0 i, t.1 i)) mine)
    (λ (t : (j ≢ id) × At vs j u). others j u t.0 t.1) (at_set vs id j w u at)
