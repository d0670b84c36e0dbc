-- The nodes of a text (FTS-5000).
use Rattle.std.specs.Prelude.{◌≡◌, ℕ, ◌+◌, ◌==◌, min, Bool, ◌||◌, nat_le, nat_eq, List, [], ◌∷◌, ◌++◌, length, take, position, codes, Option, Some, None, Result, Ok, Err, if◌then◌else◌}
use Rattle.std.specs.List.{slice_split, starts_with}
use Rattle.std.specs.Str.Lines.{lines}
use Rattle.ftn_addr.specs.LineNumbers.{next_line, or_fault}
use Rattle.ftn_addr.specs.Outcomes.{◌>>=◌, GivesUnless}
use Rattle.nodelist_comp.specs.Fields.{Area, node_of}
use Rattle.nodelist_comp.specs.Node.{ListedNode, place_of, has_place}
use Rattle.nodelist_comp.specs.declared.fault.ListCause.{ListCause}
use Rattle.nodelist_comp.specs.declared.fault.ListCause.TheVariants.{TooMany, NoMemory}
use Rattle.nodelist_comp.specs.declared.fault.ListTextFault.{ListTextFault}

-- What was returned, seen by view, is what compiling gives, unless memory ran out.
abbrev pub Compiles : {X Y : Type 0} → (X → Y) → Result X ListTextFault → Result Y ListTextFault → Type 0
Compiles view result read = GivesUnless (λ fault. fault.cause ≡ NoMemory) view result read

-- a comment, or nothing
abbrev pub is_passed : List ℕ → Bool
is_passed line = length line == 0 || starts_with nat_eq line (codes ";")

-- A node goes to the end, unless its address is there already; 65536 nodes are the most (own).
abbrev pub added : List ListedNode → ListedNode → Result (List ListedNode) ListCause
added nodes node =
    if has_place nodes (place_of node) then Ok nodes
    else if nat_le 65536 (length nodes) then Err TooMany
    else Ok (nodes ++ node ∷ [])

-- The nodes with that of one more line, and the zone and the net that hold below it: those of its node.
unfoldable pub line_taken : List ListedNode → Option Area → List ℕ → Result (List ListedNode × Option Area) ListCause
line_taken nodes above line =
    if is_passed line then Ok (nodes, above)
    else (node_of above (slice_split (λ byte. byte == 44) line) >>= λ node. added nodes node >>= λ more. Ok (more, Some (record { zone = node.zone; net = node.net })))

abbrev pub on_line : {A B : Type 0} → ℕ → Result A ListCause → (A → Result B ListTextFault) → Result B ListTextFault
on_line number read f = or_fault (λ cause. record { line = number; cause = cause }) read f

-- the nodes and those of further lines below an area, or the first fault
abbrev pub with_lines : List ListedNode → Option Area → ℕ → List (List ℕ) → Result (List ListedNode) ListTextFault
with_lines nodes above number [] = Ok nodes
with_lines nodes above number (line ∷ lines) =
    on_line (next_line number) (line_taken nodes above line) (λ x. with_lines x.0 x.1 (next_line number) lines)

abbrev pub before_at : List ℕ → Option ℕ → List ℕ
before_at text None = text
before_at text (Some end) = take end text

-- the byte 0x1A ends the text
abbrev pub before_end : List ℕ → List ℕ
before_end text = before_at text (position (λ byte. byte == 26) text)

-- the nodes of a text, or its first fault
abbrev pub compiled : List ℕ → Result (List ListedNode) ListTextFault
compiled text = with_lines [] None 0 (lines (before_end text))
