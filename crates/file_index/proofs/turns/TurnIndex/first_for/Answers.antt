use Rattle.std.proofs.Common.{◌∙◌, None, ap}
use Rattle.file_index.specs.Turns.{has_turn}
use Rattle.file_index.proofs.Turning.{get-turns, next_alike}
use Rattle.file_index.proofs.turns.TurnIndex.first_for.Goals as goal

pub returns-in-Some : goal.returns-in-Some
returns-in-Some c =
    next_alike _ _ c.args.after _ (λ t. ap (λ found. has_turn found t) c.in-Some.ensures.value ∙ get-turns c.args.self.now.turns c.args.to.now t) c.first_past.ensures

pub returns-in-None : goal.returns-in-None
returns-in-None c =
    next_alike (has_turn None) _ c.args.after None (λ t. ap (λ found. has_turn found t) c.in-None.ensures.value ∙ get-turns c.args.self.now.turns c.args.to.now t) (λ t there past. absurd cc)
