-- Calls that follow one another, of each of which a store says the same (own).
use Rattle.std.specs.Prelude.{◌≡◌, List, [], ◌∷◌}

-- from one store to another, by way of these
abbrev pub Through : {T : Type 0} → (T → T → Type 0) → T → List T → T → Type 0
Through rule old [] new = new ≡ old
Through rule old (mid ∷ mids) new = rule old mid × Through rule mid mids new

-- no call, or some, one after the other
pub record Ruled {T : Type 0} (rule : T → T → Type 0) (old new : T) : Type 0 where
  pub mids : List T
  pub through : Through rule old mids new
