use Rattle.std.proofs.Common.{◌≡◌}
use Rattle.bench_gate.specs.Counting.{count_of}
use Rattle.turn_gate.specs.Passes.{IsFree, view}
use Rattle.bench_gate.proofs.behind_gate.visits.Given as goal

abbrev pub invariant-loop-made : goal.invariant-loop-made
invariant-loop-made g l = IsFree l.gate l.pass × ((view l.pass).seat ≡ (view l.initial.pass).seat) × (count_of (view l.pass).left (view l.pass).seat ≡ l._made)
