-- The addresses that a list of nodes has, as a set.
use Rattle.std.specs.Prelude.{◌≡◌, ℕ, List, map}
use Rattle.std.specs.BTreeSet.{BTreeSet, contains}
use Rattle.std.specs.Ordering.{nat_cmp}
use Rattle.nodelist_comp.specs.Node.{has_place}
use Rattle.nodelist_comp.specs.Views.{listed}
use Rattle.nodelist_comp.specs.declared.node.Listed.{Listed}

-- the set has the addresses of the nodes and no others
abbrev pub Tracks : List Listed → BTreeSet ℕ → Type 0
Tracks nodes places = (place : ℕ) → contains nat_cmp places place ≡ has_place (map listed nodes) place
