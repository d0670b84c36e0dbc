use Rattle.std.proofs.Common.{◌≡◌, ℕ, List, [], ◌∷◌, drop, nat_eq, refl, ap, ◌∙◌, arith}
use Rattle.std.specs.List.{common_prefix_len}
use Rattle.std.proofs.lemmas.List.{drop_all}
use Rattle.nodelist_find.proofs.cursor.same_front.Goals as goal

none_same : (xs : List ℕ) → common_prefix_len nat_eq xs [] ≡ 0
none_same [] = refl
none_same (x ∷ xs) = refl

pub returns-else-same-b-clause-same : goal.returns-else-same-b-clause-same
returns-else-same-b-clause-same c =
    let a = drop c.loop-same.same c.args.a.now in
    let past = ap (common_prefix_len nat_eq a) (drop_all c.loop-same.same c.args.b.now (omega arith)) ∙ none_same a in
    omega (arith, past, c.loop-same.invariant.same)
