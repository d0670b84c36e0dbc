-- The items of a flow file (FTS-5005).
use Rattle.std.specs.Prelude.{ℕ, ◌==◌, ◌||◌, nat_lt, List, [], ◌∷◌, length, map, Option, Some, None, if◌then◌else◌}
use Rattle.std.specs.Str.Lines.{lines}
use Rattle.ftn_addr.specs.declared.source_file.Action.{Action}
use Rattle.ftn_addr.specs.declared.source_file.Action.TheVariants.{Leave, Delete, Cut}
use Rattle.ftn_addr.specs.Blanks.{trimmed}

-- what a line asks for
pub data FlowItem : Type 0 where
  Send : (action : Action) (path : List ℕ) → FlowItem
  Passed : FlowItem

-- `#` truncates, `^` and `-` delete, `~` and `!` pass the line over, `@` and any other byte leave; that other byte is the path's
abbrev pub sent_by : List ℕ → Option (Action × List ℕ)
sent_by [] = None
sent_by (mark ∷ path) =
    if mark == 126 || mark == 33 then None
    else if mark == 35 then Some (Cut, path)
    else if mark == 94 || mark == 45 then Some (Delete, path)
    else if mark == 64 then Some (Leave, path)
    else Some (Leave, mark ∷ path)

-- an empty path is passed
abbrev pub item_of : Option (Action × List ℕ) → FlowItem
item_of None = Passed
item_of (Some (action, path)) = if length path == 0 then Passed else Send action path

-- the item of a line, without the blanks at its ends, of at most 1024 bytes (own)
abbrev pub flow_item : List ℕ → FlowItem
flow_item line = if nat_lt 1024 (length (trimmed line)) then Passed else item_of (sent_by (trimmed line))

abbrev pub flow_items : List ℕ → List FlowItem
flow_items text = map flow_item (lines text)
