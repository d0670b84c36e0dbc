-- What a sink in memory tells (own).
use Rattle.std.specs.Prelude.{◌≡◌, ℕ, ◌==◌, Bool, false, List, [], Option, Some, Result, Ok, Err, if◌then◌else◌}
use Rattle.std.specs.List.{list_any}
use Rattle.ftn_addr.specs.Counts.{next_count}
use Rattle.binkp_link.specs.Lines.{SinkState}
use Rattle.binkp_link.specs.declared.mem_sink.MemSink.{MemSink}

abbrev pub sink_state : MemSink → SinkState
sink_state sink = record { faults = sink.faults; bytes = Some sink.written.list }

-- a sink into which nothing was put
abbrev pub new_sink : SinkState
new_sink = record { faults = 0; bytes = Some [] }

-- the bytes put into a sink that tells them
abbrev pub put_into : SinkState → Option (List ℕ)
put_into sink = sink.bytes

-- whether the next call is to fail
abbrev pub is_to_fail : MemSink → Bool
is_to_fail sink = list_any (λ n. n == next_count sink.puts) sink.fails.items

-- A call that is to fail does. Another fails only where it finds no memory, and isn't counted then.
abbrev pub FailsAsSet : {X Y : Type 0} → Result X Y → MemSink → MemSink → Type 0
FailsAsSet (Ok x) old new = (is_to_fail old ≡ false) × (new.puts ≡ next_count old.puts)
FailsAsSet (Err y) old new = new.puts ≡ (if is_to_fail old then next_count old.puts else old.puts)
