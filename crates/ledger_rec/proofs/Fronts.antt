-- The front of bytes.
use Rattle.std.proofs.Common.{◌≡◌, ℕ, ◌<◌, List, ◌++◌, length, get_or, ap, ◌∙◌, inl, inr, arith, subst}
use Rattle.std.proofs.lemmas.Bool.{cases_lt}
use Rattle.std.proofs.lemmas.List.{get_or_past}
use Rattle.std.proofs.Math.ListN.{get_or-append}

pub front_of_bytes : (bytes front rest : List ℕ) → bytes ≡ front ++ rest → ((i : ℕ) → get_or bytes i 0 < 256) → (i : ℕ) → get_or front i 0 < 256
front_of_bytes bytes front rest is small i =
    elim (cases_lt i (length front)) as (λ _. get_or front i 0 < 256) [
      | inl inside ↦ subst (λ (k : ℕ). k < 256) (ap (λ (l : List ℕ). get_or l i 0) is ∙ get_or-append front rest 0 i inside) (small i)
      | inr past ↦ (let zero = get_or_past front i 0 past in omega (arith, zero))
    ]
