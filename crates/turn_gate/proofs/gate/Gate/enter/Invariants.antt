use Rattle.turn_gate.specs.Passes.{IsFree, Waited, view}
use Rattle.turn_gate.proofs.gate.Gate.enter.Given as goal

abbrev pub invariant-loop : goal.invariant-loop
invariant-loop g l =
    (goal.iterator-loop g).can_next l.iterator' × (goal.iterator-loop g).is_finite l.iterator'
    × IsFree l.self l.pass × Waited (view l.initial.pass) (view l.pass)
