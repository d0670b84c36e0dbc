use Rattle.std.proofs.Common.{◌≡◌, None}
use Rattle.node_store.specs.Stored.{stand_of}
use Rattle.outbound_desk.specs.Answering.{Stages}
use Rattle.outbound_desk.proofs.requests.shares_of.Given as goal

abbrev pub invariant-loop-folder : goal.invariant-loop-folder
invariant-loop-folder g l = record {
  stages : Stages (stand_of g.D.Disk.tells g.D.Disk.content g.D.Disk.fault_count g.D.Disk.moment g.D.Disk.images l.initial.store) (stand_of g.D.Disk.tells g.D.Disk.content g.D.Disk.fault_count g.D.Disk.moment g.D.Disk.images l.store);
  same : (stand_of g.D.Disk.tells g.D.Disk.content g.D.Disk.fault_count g.D.Disk.moment g.D.Disk.images l.store).state ≡ (stand_of g.D.Disk.tells g.D.Disk.content g.D.Disk.fault_count g.D.Disk.moment g.D.Disk.images l.initial.store).state;
  whole : l.store.memory.broken ≡ None;
}
