use Rattle.std.proofs.Common.{map, take}
use Rattle.node_store.specs.Stored.{stand_of}
use Rattle.outbound_places.specs.Outbound.{IsAt}
use Rattle.outbound_addresses.proofs.Walk.{Walks}
use Rattle.outbound_addresses.proofs.names.note_names.Given as goal

abbrev pub invariant-loop-name : goal.invariant-loop-name
invariant-loop-name g l =
    Walks l.outbound.base.now.list l.outbound.zone (IsAt l.folder.list) (Unit {0}) (map (λ name. name.list) (take l.name-index l.names)) (stand_of g.D.Disk.tells g.D.Disk.content g.D.Disk.fault_count g.D.Disk.moment g.D.Disk.images l.fn.store) (stand_of g.D.Disk.tells g.D.Disk.content g.D.Disk.fault_count g.D.Disk.moment g.D.Disk.images l.store) l.fn.found l.found
