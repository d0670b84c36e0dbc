-- What contracts see of a line's counts (own).
use Rattle.std.specs.Prelude.{false, Option}
use Rattle.binkp_link.specs.Lines.{LineState, LineBytes}
use Rattle.binkp_link.specs.declared.counting.Tally.{Tally}

abbrev pub nothing_counted : Tally
nothing_counted = record { faults = 0; calm = 0; ends = 0; idle = false; closed = false }

-- a line of those counts and bytes
abbrev pub counted : Tally → Option LineBytes → LineState
counted tally bytes =
    record { faults = tally.faults; calm = tally.calm; ends = tally.ends; idle = tally.idle; closed = tally.closed; bytes = bytes }
