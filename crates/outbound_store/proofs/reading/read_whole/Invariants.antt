use Rattle.std.proofs.Common.{◌≡◌, ◌-◌, ◌^◌, None, Ok, length, take, true}
use Rattle.node_model.specs.StoreStates.{IfTold}
use Rattle.node_store.specs.Asking.{Asks}
use Rattle.node_store.specs.Stored.{stand_of}
use Rattle.node_store.specs.Worlds.{bytes_of}
use Rattle.outbound_store.proofs.reading.read_whole.Given as goal

abbrev pub invariant-pieces : goal.invariant-pieces
invariant-pieces g l = record {
  asks : Asks {T = Unit {0}} true (Ok tt) (stand_of g.D.Disk.tells g.D.Disk.content g.D.Disk.fault_count g.D.Disk.moment g.D.Disk.images l.initial.store) (stand_of g.D.Disk.tells g.D.Disk.content g.D.Disk.fault_count g.D.Disk.moment g.D.Disk.images l.store);
  takes : l.store.takes ≡ l.initial.store.takes;
  whole : l.store.memory.broken ≡ None;
  front : IfTold (stand_of g.D.Disk.tells g.D.Disk.content g.D.Disk.fault_count g.D.Disk.moment g.D.Disk.images l.initial.store).state.content (λ s. l.bytes.list ≡ take (length l.bytes.list) (bytes_of (s.takes l.own)));
}

abbrev pub decreases-pieces : goal.decreases-pieces
decreases-pieces g l = 2 ^ 64 - length l.bytes.list
