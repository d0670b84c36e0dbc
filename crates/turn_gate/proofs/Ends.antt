-- What holds at a gate's end, of the passes that the keeper took in.
use Rattle.std.proofs.Common.{◌≡◌, ℕ, ◌∷◌, ◌<◌, List, All, Contains, map, length, remove, slice_get, slice_index_or, Some, ◌⊎◌, ⊎_elim, inl, inr, sym, ap, ◌∙◌, subst}
use Rattle.turn_gate.specs.declared.view.Joined.{Joined}
use Rattle.turn_gate.specs.Turns.{ByOthers, ByTurns}
use Rattle.turn_gate.proofs.Removed.{all_of_whole, get_of_whole}

-- the numbers below n are those of these passes
abbrev pub Covers : {X : Type 0} → ℕ → List (Joined X) → Type 0
Covers n os = (k : ℕ) → k < n → Contains (map (λ o. o.seat) os) k

-- the state is what was left after the last turn, or the first one where nobody made a turn
abbrev pub Ends : {X : Type 0} → X → X → List (Joined X) → Type 0
Ends first now os = ((now ≡ first) × All (λ o. o.turns ≡ 0) os) ⊎ ((k : ℕ) × (o : Joined _) × (slice_get os k ≡ Some o) × (0 < o.turns) × (o.left ≡ now))

-- the value at the end
abbrev pub EndsAs : {X : Type 0} → (ℕ → X → X → Type 0) → X → X → List (Joined X) → Type 0
EndsAs Turns first now os = ByTurns Turns first now × All (λ o. ByOthers Turns o.seat o.left now) os × Ends first now os

-- the same of all passes, in any order, where one of them was taken in before the others
pub ends_whole : {A X : Type 0} (J : A → Joined X) (Turns : ℕ → X → X → Type 0) (first now : X) (xs : List A) (i : ℕ) (x : A) → i < length xs → x ≡ slice_index_or xs i x → EndsAs Turns first now (J x ∷ map J (remove xs i))
    → ByTurns Turns first now × All (λ a. ByOthers Turns (J a).seat (J a).left now) xs
    × (((now ≡ first) × All (λ a. (J a).turns ≡ 0) xs) ⊎ ((k : ℕ) × (a : A) × (slice_get xs k ≡ Some a) × (0 < (J a).turns) × ((J a).left ≡ now)))
ends_whole {A} {X} J Turns first now xs i x l here e = (
  e.0,
  all_of_whole J (λ o. ByOthers Turns o.seat o.left now) xs i x l here e.1,
  ⊎_elim (λ z. inl (z.0, all_of_whole J (λ o. o.turns ≡ 0) xs i x l here z.1))
      (λ z. let m = get_of_whole J xs i x l here z.0 z.1 z.2 in inr (m.0, m.1, m.2, subst (λ (o : Joined X). 0 < o.turns) (sym m.3) z.3, ap (λ (o : Joined X). o.left) m.3 ∙ z.4))
      e.2,
)
