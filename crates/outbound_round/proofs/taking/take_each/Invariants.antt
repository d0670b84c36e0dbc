use Rattle.std.proofs.Common.{◌≡◌, None, map, take}
use Rattle.ftn_addr.specs.Address.{address}
use Rattle.node_store.specs.Stored.{stand_of}
use Rattle.outbound_store.specs.Calls.{CallOf}
use Rattle.outbound_store.specs.GoesOn.{GoesOn}
use Rattle.outbound_store.specs.Held.{seen_on}
use Rattle.outbound_take.specs.Ruled.{Ruled}
use Rattle.outbound_round.specs.Round.{TakesThem, told_of}
use Rattle.outbound_round.proofs.taking.take_each.Given as goal

abbrev pub invariant-loop-dest : goal.invariant-loop-dest
invariant-loop-dest g l = record {
  them : TakesThem (seen_on g.D.Disk.tells g.D.Disk.content g.D.Disk.fault_count g.D.Disk.moment g.D.Disk.images) l.telling l.outbound.base.now.list l.outbound.zone (address l.outbound.home.now) l.now (map address (take l.dest-index l.found)) (told_of l.round) l.initial.taking.store l.taking.store;
  fault : l.round.fault ≡ None;
  ruled : Ruled (λ s t. CallOf (stand_of g.D.Disk.tells g.D.Disk.content g.D.Disk.fault_count g.D.Disk.moment g.D.Disk.images s.store) s.wanting (stand_of g.D.Disk.tells g.D.Disk.content g.D.Disk.fault_count g.D.Disk.moment g.D.Disk.images t.store) t.wanting) l.initial.taking l.taking;
  goes : GoesOn (stand_of g.D.Disk.tells g.D.Disk.content g.D.Disk.fault_count g.D.Disk.moment g.D.Disk.images l.initial.taking.store) (stand_of g.D.Disk.tells g.D.Disk.content g.D.Disk.fault_count g.D.Disk.moment g.D.Disk.images l.taking.store);
}
