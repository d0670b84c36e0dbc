-- What a sink over a writer tells (own).
use Rattle.std.specs.Prelude.{ℕ, List, Option, None}
use Rattle.std.specs.Io.KnownBytes.{Appends}
use Rattle.binkp_link.specs.Lines.{SinkState}

-- its count, and nothing of its bytes
abbrev pub std_sink_state : ℕ → SinkState
std_sink_state faults = record { faults = faults; bytes = None }

abbrev pub new_std_sink : SinkState
new_std_sink = std_sink_state 0

-- what a writer that tells its bytes got
abbrev pub HasPut : List ℕ → Option (List ℕ) → Option (List ℕ) → Type 0
HasPut bytes old new = Appends old new bytes
