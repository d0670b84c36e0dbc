-- The lines of a nodelist (own).
use Rattle.std.specs.Prelude.{ℕ, List, [], ◌∷◌, ◌++◌, codes, slice_get, Option, Some, None, option_map}
use Rattle.std.specs.Fmt.{decimal}
use Rattle.ftn_addr.specs.Address.{Address}
use Rattle.ftn_addr.specs.Writing.{canonical}
use Rattle.nodelist_comp.specs.Node.{ListedNode}
use Rattle.nodelist_find.specs.Route.{route_of}
use Rattle.nodelist_find.specs.declared.index.Route.{Route}
use Rattle.nodelist_find.specs.declared.index.Route.TheVariants as way

-- `ADDR direct HOST:PORT` and LF
abbrev pub direct_text : Address → ListedNode → List ℕ
direct_text a node = canonical a ++ codes " direct " ++ node.host ++ codes ":" ++ decimal node.port ++ 10 ∷ []

-- the address of a net's host, in the domain of another
abbrev pub host_address : Address → ListedNode → Address
host_address a host = record { zone = host.zone; net = host.net; node = host.node; point = 0; domain = a.domain }

-- `ADDR via ADDR` and LF
abbrev pub via_text : Address → ListedNode → List ℕ
via_text a host = canonical a ++ codes " via " ++ canonical (host_address a host) ++ 10 ∷ []

-- `ADDR down` and LF
abbrev pub down_text : Address → List ℕ
down_text a = canonical a ++ codes " down" ++ 10 ∷ []

-- by the node's own host, by its net's, or not now; of a node that isn't listed there is no line
abbrev pub route_text : List ListedNode → Address → Route → Option (List ℕ)
route_text nodes a (way.Direct i) = option_map (direct_text a) (slice_get nodes i)
route_text nodes a (way.ViaHost i) = option_map (via_text a) (slice_get nodes i)
route_text nodes a way.Down = Some (down_text a)
route_text nodes a way.Unknown = None

-- how the node of an address is reached
abbrev pub lookup_text : List ListedNode → Address → Option (List ℕ)
lookup_text nodes a = route_text nodes a (route_of nodes a)

-- `nodes N` and LF
abbrev pub nodes_text : ℕ → List ℕ
nodes_text count = codes "nodes " ++ decimal count ++ 10 ∷ []
