-- What contracts see of a `Listed`.
use Rattle.std.specs.Prelude.{ℕ, ◌+◌, ◌*◌, ◌==◌, Bool, List}
use Rattle.std.specs.List.{list_any}
use Rattle.nodelist_comp.specs.declared.node.NodeKind.{NodeKind}

-- a node without where its host lies in memory
pub record ListedNode : Type 0 where
  pub zone : ℕ
  pub net : ℕ
  pub node : ℕ
  pub kind : NodeKind
  pub host : List ℕ
  pub port : ℕ

-- the number of an address of three numbers below 65536; it rises as addresses do
abbrev pub place : ℕ → ℕ → ℕ → ℕ
place zone net node = zone * 0x100000000 + net * 0x10000 + node

abbrev pub place_of : ListedNode → ℕ
place_of n = place n.zone n.net n.node

-- some node of the list has the address
abbrev pub has_place : List ListedNode → ℕ → Bool
has_place nodes place = list_any (λ n. place_of n == place) nodes
