-- Nodes whose addresses rise.
use Rattle.std.specs.Prelude.{ℕ, ◌<◌, List, length, map, slice_index}
use Rattle.nodelist_comp.specs.Node.{ListedNode, place_of}

abbrev pub Rises : List ℕ → Type 0
Rises places = (i j : ℕ) → i < j → j < length places → slice_index places i < slice_index places j

-- each address is below those behind it
abbrev pub Rising : List ListedNode → Type 0
Rising nodes = Rises (map place_of nodes)
