use Rattle.std.proofs.Common.{◌≡◌, ◌-◌, ◌%◌, ◌++◌, map}
use Rattle.node_trial.specs.Draws.{behind, draws}
use Rattle.node_trial.proofs.generator.Generator.draw_bytes.Given as goal

abbrev pub invariant-loop-place : goal.invariant-loop-place
invariant-loop-place l =
    (map (λ d. d % 256) (draws l.size l.fn.self) ≡ l.bytes.list ++ map (λ d. d % 256) (draws (l.size - l.place) l.self))
    × (behind l.size l.fn.self ≡ behind (l.size - l.place) l.self)
