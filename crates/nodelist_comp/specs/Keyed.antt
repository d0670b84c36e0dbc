-- Nodes under their addresses, as the code keeps them.
use Rattle.std.specs.Prelude.{◌≡◌, ℕ, List, [], ◌∷◌, map}
use Rattle.std.specs.Borrow.{Bor}
use Rattle.nodelist_comp.specs.Node.{ListedNode, place_of}
use Rattle.nodelist_comp.specs.Views.{listed}
use Rattle.nodelist_comp.specs.declared.node.Listed.{Listed}

-- the nodes in the order of the keys
abbrev pub seen : List (ℕ × Bor Listed) → List ListedNode
seen entries = map (λ e. listed e.1.now) entries

-- each key is its node's address
abbrev pub Keyed : List (ℕ × Bor Listed) → Type 0
Keyed [] = Unit {0}
Keyed (e ∷ entries) = (e.0 ≡ place_of (listed e.1.now)) × Keyed entries
