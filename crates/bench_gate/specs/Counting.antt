-- The counts of the bench.
use Rattle.std.specs.Prelude.{ℕ, ◌==◌, [], if◌then◌else◌}
use Rattle.bench_gate.specs.declared.counts.Counts.{Counts}
use Rattle.turn_gate.specs.Turns.{IsTurn}

abbrev pub no_turns : Counts
no_turns = record { first = 0; second = 0; third = 0; fourth = 0 }

-- the count of a seat
abbrev pub count_of : Counts → ℕ → ℕ
count_of c k = if k == 0 then c.first else (if k == 1 then c.second else (if k == 2 then c.third else (if k == 3 then c.fourth else 0)))

-- a turn changes its seat's count alone
abbrev pub IsCountTurn : ℕ → Counts → Counts → Type 0
IsCountTurn = IsTurn {X = Counts} {E = Unit {0}} {P = ℕ} (λ s. []) (λ e. 0) (λ k s. count_of s k)
