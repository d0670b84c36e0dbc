use Rattle.std.proofs.Common.{◌≡◌, Some, map, take}
use Rattle.outbound_model.specs.Outbound.{Outbound}
use Rattle.outbound_take.specs.Ruled.{Ruled}
use Rattle.outbound_take.specs.Stand.{told}
use Rattle.outbound_intake.specs.Asks.{Asks}
use Rattle.outbound_intake.specs.Files.{PointFolders}
use Rattle.outbound_intake.proofs.folders.point_folders.Given as goal

abbrev pub invariant-loop-zone : goal.invariant-loop-zone
invariant-loop-zone g l = record {
  asks : Asks (Unit {0}) (g.S.Outgoing.stand l.initial.store) (g.S.Outgoing.stand l.store);
  folders : (s : Outbound) → told (g.S.Outgoing.stand l.initial.store) ≡ Some s → PointFolders (l.dest.net, l.dest.node) s.outside (map (λ zone. zone.list) (take l.zone-index l.zones)) (map (λ folder. folder.list) l.folders.items);
  ruled : Ruled g.S.Outgoing.rule l.initial.store l.store;
}
