-- Open parts and the marks in them (own).
use Rattle.std.specs.Prelude.{ℕ, ◌==◌, if◌then◌else◌, List, [], ◌∷◌, Option, Some, None, take}
use Rattle.ftn_addr.specs.Address.{Address}
use Rattle.ftn_addr.specs.Key.{Key}
use Rattle.node_model.specs.Items.{Mark}
use Rattle.node_model.specs.Durable.{in_place}

-- an open part, and how many of its bytes its mark has: none where it has no mark
pub record Coming : Type 0 where
  pub number : ℕ
  pub from : Address
  pub key : Key
  pub bytes : List ℕ
  pub marked : ℕ

abbrev pub part_of : Coming → Mark
part_of p = record { number = p.number; from = p.from; key = p.key; bytes = p.bytes }

-- its mark: the first of its bytes
abbrev pub mark_in : Coming → Option Mark
mark_in p = if p.marked == 0 then None else Some (record { number = p.number; from = p.from; key = p.key; bytes = take p.marked p.bytes })

-- a mark, where there is one, at its place among marks that rise by number
abbrev pub placed : Option Mark → List Mark → List Mark
placed None marks = marks
placed (Some m) marks = in_place m marks

-- the marks of all parts, rising by number
abbrev pub marks_of : List Coming → List Mark
marks_of [] = []
marks_of (p ∷ parts) = placed (mark_in p) (marks_of parts)

-- a part that is opened again has what its mark has
abbrev pub back_to_mark : Coming → Coming
back_to_mark p = record p { bytes = take p.marked p.bytes }
