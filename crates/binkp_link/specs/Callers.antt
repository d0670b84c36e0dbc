-- The scripts that a source of lines in memory plays (own).
use Rattle.std.specs.Prelude.{◌≡◌, ℕ, List, [], ◌++◌, drop, Option, Some, None}
use Rattle.binkp_link.specs.LineSources.{IsUnused}
use Rattle.binkp_link.specs.MemLines.{coming_on, mem_state, taken_on}
use Rattle.binkp_link.specs.Repeats.{first_item}
use Rattle.binkp_link.specs.declared.callers.NextAct.{NextAct}
use Rattle.binkp_link.specs.declared.callers.NextAct.TheVariants as A
use Rattle.binkp_link.specs.declared.line_source.NextLine.{NextLine}
use Rattle.binkp_link.specs.declared.line_source.NextLine.TheVariants as N
use Rattle.binkp_link.specs.declared.line_source.Dialled.{Dialled}
use Rattle.binkp_link.specs.declared.line_source.Dialled.TheVariants as D
use Rattle.binkp_link.specs.declared.mem_line.MemLine.{MemLine}

-- the line that an act gives
abbrev pub line_of : Option NextAct → Option MemLine
line_of None = None
line_of (Some (A.Line line)) = Some line
line_of (Some A.Nothing) = None
line_of (Some A.Stop) = None
line_of (Some A.Failed) = None

abbrev pub line_dialled : Option (Option MemLine) → Option MemLine
line_dialled None = None
line_dialled (Some line) = line

-- no byte moved on the line yet, where there is one
abbrev pub UnusedLine : Option MemLine → Type 0
UnusedLine None = Unit {0}
UnusedLine (Some line) = IsUnused (mem_state line)

abbrev pub ActIsUnused : NextAct → Type 0
ActIsUnused act = UnusedLine (line_of (Some act))

-- the bytes taken from the line and those to come on it, where there is one
abbrev pub bytes_of : Option MemLine → List ℕ
bytes_of None = []
bytes_of (Some line) = taken_on (mem_state line).bytes ++ coming_on (mem_state line).bytes

-- What the act of a script answers. After the last act comes the end.
abbrev pub next_answer : Option NextAct → NextLine MemLine
next_answer None = N.Stop
next_answer (Some (A.Line line)) = N.Came line
next_answer (Some A.Nothing) = N.Nothing
next_answer (Some A.Stop) = N.Stop
next_answer (Some A.Failed) = N.Failed

abbrev pub dial_answer : Option (Option MemLine) → Dialled MemLine
dial_answer None = D.Failed
dial_answer (Some None) = D.Failed
dial_answer (Some (Some line)) = D.Line line

-- A call did what its script says. One that finds no memory fails, and plays no act.
pub data Plays {X Y : Type 0} (failed : Y) (answer : Option X → Y) (acts : List X) (result : Y) (left : List X) : Type 0 where
  plays : result ≡ answer (first_item acts) → left ≡ drop 1 acts → Plays failed answer acts result left
  no_memory : result ≡ failed → left ≡ acts → Plays failed answer acts result left
