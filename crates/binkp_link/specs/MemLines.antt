-- What a line in memory tells (own).
use Rattle.std.specs.Prelude.{ℕ, false, List, [], Option, Some, None, option_map}
use Rattle.binkp_link.specs.Lines.{LineState, LineBytes}
use Rattle.binkp_link.specs.Scripts.{script_bytes}
use Rattle.binkp_link.specs.Tallies.{counted}
use Rattle.binkp_link.specs.declared.mem_line.MemLine.{MemLine}

-- its counts; the bytes that it gave, those that were written, and those that its script has left
abbrev pub mem_state : MemLine → LineState
mem_state line =
    counted line.tally (Some (record { taken = line.reads.taken; sent = line.written.list; coming = script_bytes line.reads.left }))

-- a line on which nothing was read or written, with those bytes to come
abbrev pub new_line : List ℕ → LineState
new_line coming =
    record { faults = 0; calm = 0; ends = 0; idle = false; closed = false; bytes = Some (record { taken = []; sent = []; coming = coming }) }

-- the bytes sent on a line that tells them
abbrev pub sent_on : LineState → Option (List ℕ)
sent_on line = option_map (λ (bytes : LineBytes). bytes.sent) line.bytes

-- the bytes still to come on a line that tells them
abbrev pub coming_on : Option LineBytes → List ℕ
coming_on None = []
coming_on (Some bytes) = bytes.coming

-- the bytes taken from a line that tells them
abbrev pub taken_on : Option LineBytes → List ℕ
taken_on None = []
taken_on (Some bytes) = bytes.taken
