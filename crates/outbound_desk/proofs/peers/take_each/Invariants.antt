use Rattle.std.proofs.Common.{◌≡◌, None}
use Rattle.node_store.specs.Stored.{stand_of}
use Rattle.outbound_store.specs.Calls.{CallOf}
use Rattle.outbound_take.specs.Ruled.{Ruled}
use Rattle.outbound_desk.proofs.peers.take_each.Given as goal

abbrev pub invariant-loop-peer : goal.invariant-loop-peer
invariant-loop-peer g l = record {
  ruled : Ruled (λ s t. CallOf (stand_of g.D.Disk.tells g.D.Disk.content g.D.Disk.fault_count g.D.Disk.moment g.D.Disk.images s.store) s.wanting (stand_of g.D.Disk.tells g.D.Disk.content g.D.Disk.fault_count g.D.Disk.moment g.D.Disk.images t.store) t.wanting) l.initial.taking l.taking;
  whole : l.taking.store.memory.broken ≡ None;
  unwanted : l.taking.wanting ≡ None;
}
