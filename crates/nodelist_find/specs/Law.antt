-- What an index keeps of a list of nodes.
use Rattle.std.specs.Prelude.{◌≡◌, ℕ, ◌<◌, ◌≤◌, nat_lt, List, [], length, if◌then◌else◌}
use Rattle.std.specs.List.{AllByRecursion}
use Rattle.nodelist_comp.specs.Index.{in_order, index_of}
use Rattle.nodelist_comp.specs.Node.{ListedNode}
use Rattle.ftn_addr.specs.declared.limits.TheConstants.{MAX_ADDRESS_NUMBER}

-- numbers of an address (FTS-5000), and a port of two bytes
pub record IsListed (n : ListedNode) : Type 0 where
  pub zone : n.zone ≤ MAX_ADDRESS_NUMBER
  pub net : n.net ≤ MAX_ADDRESS_NUMBER
  pub node : n.node ≤ MAX_ADDRESS_NUMBER
  pub port : n.port < 65536

-- a host of more than 255 bytes is taken as empty
abbrev pub clipped : ListedNode → ListedNode
clipped n = record n { host = if nat_lt 255 (length n.host) then [] else n.host }

-- the bytes are the index of these nodes, which stand in their order
pub record IsIndex (bytes : List ℕ) (nodes : List ListedNode) : Type 0 where
  pub listed : AllByRecursion IsListed nodes
  pub few : length nodes ≤ 65536
  pub ordered : in_order nodes ≡ nodes
  pub text : bytes ≡ index_of nodes
