-- The bytes of an index (own).
use Rattle.std.specs.Prelude.{ℕ, ◌-◌, ◌^◌, nat_lt, min, List, [], ◌∷◌, ◌++◌, length, fold, codes, if◌then◌else◌}
use Rattle.std.specs.Int.{w16, w32, to_be_bytes}
use Rattle.std.specs.List.{flat_map}
use Rattle.nodelist_comp.specs.Node.{ListedNode, place_of, has_place}
use Rattle.nodelist_comp.specs.declared.node.NodeKind.{NodeKind}
use Rattle.nodelist_comp.specs.declared.node.NodeKind.TheVariants.{Zone, Region, Host, Hub, Pvt, Hold, Down, Plain}

-- rising nodes, with a node at its place
abbrev pub insert_node : ListedNode → List ListedNode → List ListedNode
insert_node n [] = n ∷ []
insert_node n (m ∷ ms) = if nat_lt (place_of n) (place_of m) then n ∷ m ∷ ms else m ∷ insert_node n ms

-- of nodes with one address the first stays
abbrev pub with_node : List ListedNode → ListedNode → List ListedNode
with_node sorted n = if has_place sorted (place_of n) then sorted else insert_node n sorted

-- the nodes rising by zone, net and node, each address once
abbrev pub in_order : List ListedNode → List ListedNode
in_order nodes = fold with_node [] nodes

abbrev pub kind_byte : NodeKind → ℕ
kind_byte Zone = 0
kind_byte Region = 1
kind_byte Host = 2
kind_byte Hub = 3
kind_byte Pvt = 4
kind_byte Hold = 5
kind_byte Down = 6
kind_byte Plain = 7

-- one byte of length and the host; one of more than 255 bytes is taken as empty
abbrev pub host_bytes : List ℕ → List ℕ
host_bytes host = if nat_lt 255 (length host) then 0 ∷ [] else length host ∷ host

-- zone, net, node, kind, host and port
abbrev pub node_bytes : ListedNode → List ℕ
node_bytes n =
    to_be_bytes w16 n.zone ++ to_be_bytes w16 n.net ++ to_be_bytes w16 n.node ++ kind_byte n.kind ∷ host_bytes n.host ++ to_be_bytes w16 n.port

-- `nodeidx1`, the count, and the nodes
abbrev pub spelled : List ListedNode → List ℕ
spelled nodes = codes "nodeidx1" ++ to_be_bytes w32 (min (length nodes) (2 ^ 32 - 1)) ++ flat_map node_bytes nodes

abbrev pub index_of : List ListedNode → List ℕ
index_of nodes = spelled (in_order nodes)
