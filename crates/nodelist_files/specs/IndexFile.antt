-- The index of the own folder (own).
use Rattle.std.specs.Prelude.{◌≡◌, ◌⊎◌, ℕ, List, slice_get, Option, Some, None, Result, Ok, Err}
use Rattle.ftn_addr.specs.Address.{Address}
use Rattle.nodelist_comp.specs.Node.{ListedNode}
use Rattle.nodelist_find.specs.Nodes.{read_index}
use Rattle.nodelist_find.specs.Route.{route_of}
use Rattle.nodelist_find.specs.declared.fault.IndexFault.{IndexFault}
use Rattle.nodelist_find.specs.declared.index.Route.{Route}
use Rattle.nodelist_find.specs.declared.index.Route.TheVariants as way
use Rattle.nodelist_files.specs.declared.fault.IndexFileFault.{IndexFileFault}
use Rattle.nodelist_files.specs.declared.fault.IndexFileFault.TheVariants.{Disk, Bad, NoMemory}

abbrev pub nodes_or_bad : Result (List ListedNode) IndexFault → Result (List ListedNode) IndexFileFault
nodes_or_bad (Ok nodes) = Ok nodes
nodes_or_bad (Err fault) = Err Bad

-- the nodes of an index's bytes, or that these aren't in its grammar
abbrev pub opened : List ℕ → Result (List ListedNode) IndexFileFault
opened bytes = nodes_or_bad (read_index bytes)

abbrev pub found : Result (List ListedNode) IndexFileFault → Result (Option (List ListedNode)) IndexFileFault
found (Ok nodes) = Ok (Some nodes)
found (Err fault) = Err fault

-- the nodes of an index file, where it stands
abbrev pub index_at : Option (List ℕ) → Result (Option (List ListedNode)) IndexFileFault
index_at None = Ok None
index_at (Some bytes) = found (opened bytes)

-- what may come whatever the file has
abbrev pub MayFail : IndexFileFault → Type 0
MayFail fault = (fault ≡ Disk) ⊎ (fault ≡ NoMemory)

abbrev pub direct_at : List ListedNode → Route → Option ListedNode
direct_at nodes (way.Direct i) = slice_get nodes i
direct_at nodes (way.ViaHost i) = None
direct_at nodes way.Down = None
direct_at nodes way.Unknown = None

-- the node of an address, where it is reached by its own host
abbrev pub direct_of : List ListedNode → Address → Option ListedNode
direct_of nodes a = direct_at nodes (route_of nodes a)
