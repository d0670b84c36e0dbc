use Rattle.std.proofs.Common.{ℕ, List, ◌∷◌, Some, None, sym, subst}
use Rattle.std.specs.declared.ops.Bound.TheVariants.{Excluded, Unbounded}
use Rattle.std.specs.BTreeSet.{IsKeyRangeOf}
use Rattle.std.specs.Ordering.{nat_cmp}
use Rattle.file_index.specs.Sets.{LeastAbove, NextNumber}
use Rattle.file_index.proofs.Members.{has_number, first_least, range_first, range_none}
use Rattle.file_index.proofs.sets.least_above.Goals as goal

pub returns-in-Some-first : goal.returns-in-Some-first
returns-in-Some-first c =
    subst (λ after. LeastAbove (has_number c.args.numbers.now) after c.in-Some-first.number.now) (sym c.in-None.is)
    (first_least c.args.numbers.now c.in-Some-first.number.now c.in-Some-first.ensures.member c.in-Some-first.ensures.least)

pub returns-in-Some-next : goal.returns-in-Some-next
returns-in-Some-next c =
    let k = c.in-Some-next.number.now in
    let found : IsKeyRangeOf nat_cmp (Excluded c.in-Some.at) Unbounded c.args.numbers.now (k ∷ c.next.new.self) =
    subst (λ (r : List ℕ). IsKeyRangeOf nat_cmp (Excluded c.in-Some.at) Unbounded c.args.numbers.now r) c.in-Some-next.ensures.steps (c.range.ensures.in_range tt) in
    subst (λ after. LeastAbove (has_number c.args.numbers.now) after k) (sym c.in-Some.is)
    (range_first c.args.numbers.now c.in-Some.at k found.1.0.0 found.1.1 (λ q behind is. found.2 q (behind, tt) is))

pub returns-in-None-next : goal.returns-in-None-next
returns-in-None-next c =
    let found : IsKeyRangeOf nat_cmp (Excluded c.in-Some.at) Unbounded c.args.numbers.now c.range.result = c.range.ensures.in_range tt in
    subst (λ after. NextNumber (has_number c.args.numbers.now) after None) (sym c.in-Some.is)
    (range_none c.args.numbers.now c.in-Some.at (λ q behind. found.5 c.in-None-next.ensures.steps.0 q (behind, tt)))
