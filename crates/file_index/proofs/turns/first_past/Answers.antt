use Rattle.std.proofs.Common.{List, ◌∷◌, Some, None, sym, subst}
use Rattle.std.specs.declared.ops.Bound.TheVariants.{Excluded, Unbounded}
use Rattle.std.specs.BTreeSet.{IsKeyRangeOf}
use Rattle.file_index.specs.declared.turns.Turn.{Turn}
use Rattle.file_index.specs.Turns.{has_turn, FirstPast, NextTurn}
use Rattle.file_index.proofs.Turning.{by_turn, first_least, range_first, range_none}
use Rattle.file_index.proofs.turns.first_past.Goals as goal

pub returns-in-Some-first : goal.returns-in-Some-first
returns-in-Some-first c =
    subst (λ after. FirstPast (λ t. has_turn (Some c.args.turns.now) t) after c.in-Some-first.turn.now) (sym c.in-None.is)
    (first_least c.args.turns.now c.in-Some-first.turn.now c.in-Some-first.ensures.member c.in-Some-first.ensures.least)

pub returns-in-Some-next : goal.returns-in-Some-next
returns-in-Some-next c =
    let k = c.in-Some-next.turn.now in
    let found : IsKeyRangeOf by_turn (Excluded c.in-Some.at) Unbounded c.args.turns.now (k ∷ c.next.new.self) =
    subst (λ (r : List Turn). IsKeyRangeOf by_turn (Excluded c.in-Some.at) Unbounded c.args.turns.now r) c.in-Some-next.ensures.steps (c.range.ensures.in_range tt) in
    subst (λ after. FirstPast (λ t. has_turn (Some c.args.turns.now) t) after k) (sym c.in-Some.is)
    (range_first c.args.turns.now c.in-Some.at k found.1.0.0 found.1.1 (λ q behind is. found.2 q (behind, tt) is))

pub returns-in-None-next : goal.returns-in-None-next
returns-in-None-next c =
    let found : IsKeyRangeOf by_turn (Excluded c.in-Some.at) Unbounded c.args.turns.now c.range.result = c.range.ensures.in_range tt in
    subst (λ after. NextTurn (λ t. has_turn (Some c.args.turns.now) t) after None) (sym c.in-Some.is)
    (range_none c.args.turns.now c.in-Some.at (λ q behind. found.5 c.in-None-next.ensures.steps.0 q (behind, tt)))
