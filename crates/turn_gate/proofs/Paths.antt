-- Paths of turns.
use Rattle.std.proofs.Common.{ℕ, List, [], ◌∷◌, ◌++◌, refl, sym, subst}
use Rattle.turn_gate.specs.Turns.{Path, Reached}

module _ {X : Type 0} (Turns : ℕ → X → X → Type 0) where
  longer : (May : ℕ → Type 0) (a : X) (ts : List (ℕ × X)) (b c : X) (k : ℕ) → Path Turns May a ts b → May k → Turns k b c → Path Turns May a (ts ++ (k, c) ∷ []) c
  longer May a [] b c k p m t = (m, subst (λ (z : X). Turns k z c) (sym p) t, refl)
  longer May a (u ∷ us) b c k p m t = (p.0, p.1, longer May u.1 us b c k p.2 m t)

  weaker : (May Can : ℕ → Type 0) → ((k : ℕ) → May k → Can k) → (a : X) (ts : List (ℕ × X)) (b : X) → Path Turns May a ts b → Path Turns Can a ts b
  weaker May Can may a [] b p = p
  weaker May Can may a (u ∷ us) b p = (may u.0 p.0, p.1, weaker May Can may u.1 us b p.2)

  pub nowhere : (May : ℕ → Type 0) (a : X) → Reached Turns May a a
  nowhere May a = ([], refl)

  pub further : (May : ℕ → Type 0) (a b c : X) (k : ℕ) → Reached Turns May a b → May k → Turns k b c → Reached Turns May a c
  further May a b c k r m t = (r.0 ++ (k, c) ∷ [], longer May a r.0 b c k r.1 m t)

  pub relaxed : (May Can : ℕ → Type 0) → ((k : ℕ) → May k → Can k) → (a b : X) → Reached Turns May a b → Reached Turns Can a b
  relaxed May Can may a b r = (r.0, weaker May Can may a r.0 b r.1)
