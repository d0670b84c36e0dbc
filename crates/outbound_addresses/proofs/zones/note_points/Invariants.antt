use Rattle.std.proofs.Common.{List, ℕ, ◌++◌, ◌∷◌, map, take}
use Rattle.node_model.specs.Lists.{Member}
use Rattle.node_store.specs.Stored.{stand_of}
use Rattle.outbound_places.specs.Outbound.{IsBeside, IsEntry, IsIn}
use Rattle.outbound_addresses.proofs.Walk.{Walks}
use Rattle.outbound_addresses.proofs.zones.note_points.Given as goal

abbrev pub invariant-loop-name : goal.invariant-loop-name
invariant-loop-name g l =
    Walks l.outbound.base.now.list l.outbound.zone (λ name. IsIn (l.folder.list ++ 47 ∷ name)) (IsBeside l.outbound.base.now.list l.folder.list × ((n : List ℕ) → Member n (map (λ name. name.list) l.names) → IsEntry n)) (map (λ name. name.list) (take l.name-index l.names)) (stand_of g.D.Disk.tells g.D.Disk.content g.D.Disk.fault_count g.D.Disk.moment g.D.Disk.images l.fn.store) (stand_of g.D.Disk.tells g.D.Disk.content g.D.Disk.fault_count g.D.Disk.moment g.D.Disk.images l.store) l.fn.found l.found
