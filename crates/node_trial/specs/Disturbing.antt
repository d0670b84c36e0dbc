-- What disturbs the session of a round, as it is drawn (own).
use Rattle.std.specs.Prelude.{ℕ, ◌%◌, nat_eq, nat_lt, Some, None, if◌then◌else◌}
use Rattle.node_trial.specs.Draws.{drawn, next}
use Rattle.node_trial.specs.declared.disturbance.Disturbance.{Disturbance}

-- a cut behind so many bytes alone, and one with a stop
abbrev pub cut_alone : ℕ → Disturbance
cut_alone x = record { bytes = Some (drawn x % 20000); stop = None }

abbrev pub cut_with_stop : ℕ → Disturbance
cut_with_stop x =
    record { bytes = Some (drawn x % 20000); stop = Some (record { calls = drawn (next x) % 40; pick = drawn (next (next x)) }) }

-- up to round 32 each session is cut, and in every fourth of these rounds the answering node is stopped too
abbrev pub disturbs : (round : ℕ) → ℕ → Disturbance
disturbs round x =
    if nat_lt 32 round then record { bytes = None; stop = None } else (if nat_eq (round % 4) 0 then cut_with_stop x else cut_alone x)

-- how many draws that takes
abbrev pub draws_of : ℕ → ℕ
draws_of round = if nat_lt 32 round then 0 else (if nat_eq (round % 4) 0 then 3 else 1)
