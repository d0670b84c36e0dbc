use Rattle.std.proofs.Common.{◌≡◌, ◌+◌, ◌-◌, ◌++◌, ◌∷◌, List, ℕ, length, take, drop, sym, ◌∙◌, ap}
use Rattle.std.proofs.lemmas.List.{take_rest}
use Rattle.bso_outbound.proofs.Slashes.{cut_found, cut_none}
use Rattle.bso_outbound.proofs.slash.cut_at_slash.Goals as goal

pub returns-in_err-place : goal.returns-in_err-place
returns-in_err-place c = rw c.from_residual.ensures (cut_none c.args.path.now (sym c.first_slash.ensures ∙ c.in_err-place.was))

pub returns : goal.returns
returns c =
    let h = cut_found c.args.path.now c.in_ok-place.place (sym c.first_slash.ensures ∙ c.in_ok-place.was) in
    (h.0 ∙ ap (λ (l : List ℕ). take c.in_ok-place.place c.args.path.now ++ 47 ∷ l) (sym (rest_is c.args.path.now (c.in_ok-place.place + 1))), h.1)
  where
    rest_is : (path : List ℕ) (i : ℕ) → take (length path - i) (drop i path) ≡ drop i path
    rest_is path i = take_rest path i
