-- What the lines of the system tell (own).
use Rattle.std.specs.Prelude.{None}
use Rattle.binkp_link.specs.Lines.{LineState}
use Rattle.binkp_link.specs.LineSources.{IsUnused, LinesState}
use Rattle.binkp_link.specs.declared.line_source.LineCounts.{LineCounts}
use Rattle.binkp_link.specs.declared.line_source.NextLine.{NextLine}
use Rattle.binkp_link.specs.declared.line_source.NextLine.TheVariants as N

-- their counts, and nothing of the lines
abbrev pub system_lines : LineCounts → LinesState
system_lines counts = record { counts = counts; told = None }

abbrev pub none_counted : LineCounts
none_counted = record { faults = 0; misses = 0; nothings = 0; stops = 0; given = 0 }

-- on a line that comes no byte moved yet
abbrev pub ComesUnused : {L : Type 0} → (L → LineState) → NextLine L → Type 0
ComesUnused state (N.Came line) = IsUnused (state line)
ComesUnused state N.Nothing = Unit {0}
ComesUnused state N.Stop = Unit {0}
ComesUnused state N.Failed = Unit {0}
