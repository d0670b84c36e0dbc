-- Look-up, and how a node is reached.
use Rattle.std.specs.Prelude.{ℕ, ◌<◌, ◌==◌, List, length, slice_get, position, Option, Some, None, if◌then◌else◌}
use Rattle.ftn_addr.specs.Address.{Address}
use Rattle.nodelist_comp.specs.Node.{ListedNode, place, place_of}
use Rattle.nodelist_comp.specs.declared.node.NodeKind.{NodeKind}
use Rattle.nodelist_comp.specs.declared.node.NodeKind.TheVariants.{Hold, Down}
use Rattle.nodelist_find.specs.declared.index.Route.{Route}
use Rattle.nodelist_find.specs.declared.index.Route.TheVariants as way

-- where the first node of an address stands
abbrev pub found_at : List ListedNode → ℕ → Option ℕ
found_at nodes at = position (λ n. place_of n == at) nodes

-- A point is looked up as its node, whatever the domain.
abbrev pub looked_up : List ListedNode → Address → Option ℕ
looked_up nodes a = found_at nodes (place a.zone a.net a.node)

-- by the host of the net, where that is listed
abbrev pub via : Option ℕ → Route
via None = way.Unknown
via (Some i) = way.ViaHost i

-- A node that is down or on hold isn't reached; one with a host is reached by it, and any other by its net's.
abbrev pub told : ℕ → NodeKind → List ℕ → Option ℕ → Route
told i Down host net = way.Down
told i Hold host net = way.Down
told i kind host net = if length host == 0 then via net else way.Direct i

abbrev pub route_at : Option ℕ → Option ListedNode → Option ℕ → Route
route_at (Some i) (Some n) net = told i n.kind n.host net
route_at _ _ net = way.Unknown

abbrev pub node_at : List ListedNode → Option ℕ → Option ListedNode
node_at nodes None = None
node_at nodes (Some i) = slice_get nodes i

-- how the node of an address is reached
abbrev pub route_of : List ListedNode → Address → Route
route_of nodes a =
    let at = looked_up nodes a in route_at at (node_at nodes at) (found_at nodes (place a.zone a.net 0))

-- a place of the route is below the number of nodes
abbrev pub IsWithin : Route → ℕ → Type 0
IsWithin (way.Direct i) count = i < count
IsWithin (way.ViaHost i) count = i < count
IsWithin way.Down count = Unit {0}
IsWithin way.Unknown count = Unit {0}
