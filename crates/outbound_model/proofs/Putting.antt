-- One path has another file now.
use Rattle.std.proofs.Common.{◌≡◌, ◌≢◌, ◌⊎◌, inl, inr, Bool, true, false, ℕ, List, Option, refl, ap, if◌then◌else◌}
use Rattle.std.proofs.lemmas.Slice.Eq.{bytes_eq-Decides}
use Rattle.std.proofs.lemmas.Bool.{cases_Bool}
use Rattle.std.specs.Str.{bytes_eq}
use Rattle.outbound_model.specs.Outbound.{Puts}

-- under one name this, and as before under every other
pub puts : {X : Type 0} (name : List ℕ) (file : Option X) (old : List ℕ → Option X) → Puts name file old (λ at. if bytes_eq at name then file else old at)
puts {X} name file old = record {
  here = ap (λ (b : Bool). if b then file else old name) ((bytes_eq-Decides name name).1 refl);
  others = λ at apart. elsewhere at apart (cases_Bool (bytes_eq at name));
}
  where
    elsewhere : (at : List ℕ) → at ≢ name → (bytes_eq at name ≡ true) ⊎ (bytes_eq at name ≡ false) → (if bytes_eq at name then file else old at) ≡ old at
    elsewhere at apart (inl same) = absurd (apart ((bytes_eq-Decides at name).0 same))
    elsewhere at apart (inr other) = ap (λ (b : Bool). if b then file else old at) other
