use Rattle.std.proofs.Common.{◌≡◌, ◌-◌, ◌≤◌}
use Rattle.node_trial.specs.Files.{bytes_in, trial_files}
use Rattle.node_trial.proofs.trial.Trial.run.Given as goal

abbrev pub invariant-rounds : goal.invariant-rounds
invariant-rounds l =
    (l.trial.files ≡ l.count) × (l.trial.bytes ≡ bytes_in (trial_files l.count l.start)) × (l.trial.rounds ≤ 64)

abbrev pub decreases-rounds : goal.decreases-rounds
decreases-rounds l = 64 - l.trial.rounds
