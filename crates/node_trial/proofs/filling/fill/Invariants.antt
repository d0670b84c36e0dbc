use Rattle.std.proofs.Common.{◌≡◌, ◌+◌, ◌-◌, ◌*◌, ◌≤◌}
use Rattle.node_trial.specs.Files.{bytes_in, files_from}
use Rattle.node_trial.proofs.filling.fill.Given as goal

abbrev pub invariant-loop-index : goal.invariant-loop-index
invariant-loop-index l =
    (bytes_in (files_from l.count 1 l.fn.generator) ≡ l.total + bytes_in (files_from (l.count - l.index) (l.index + 1) l.generator))
    × (l.total ≤ 10000 * l.index)
