use Rattle.std.proofs.Common.{◌≡◌}
use Rattle.turn_gate.specs.Passes.{IsFree, view}
use Rattle.test_gate.proofs.turns.append_all.Given as goal

abbrev pub invariant-loop-number : goal.invariant-loop-number
invariant-loop-number g l = IsFree l.gate l.pass × ((view l.pass).seat ≡ (view l.initial.pass).seat)
