use Rattle.std.proofs.Common.{◌≡◌, None, map}
use Rattle.ftn_addr.specs.Address.{address}
use Rattle.node_model.specs.StoreWords.{entry_of}
use Rattle.node_store.specs.Stored.{stand_of}
use Rattle.outbound_desk.specs.Answering.{IsBatch, Stages}
use Rattle.outbound_desk.proofs.requests.stage_files.Given as goal

abbrev pub invariant-loop-path : goal.invariant-loop-path
invariant-loop-path g l = record {
  stages : Stages (stand_of g.D.Disk.tells g.D.Disk.content g.D.Disk.fault_count g.D.Disk.moment g.D.Disk.images l.initial.store) (stand_of g.D.Disk.tells g.D.Disk.content g.D.Disk.fault_count g.D.Disk.moment g.D.Disk.images l.store);
  batch : IsBatch (address l.asked.dest.now) (map entry_of l.files.items) (stand_of g.D.Disk.tells g.D.Disk.content g.D.Disk.fault_count g.D.Disk.moment g.D.Disk.images l.initial.store).state (stand_of g.D.Disk.tells g.D.Disk.content g.D.Disk.fault_count g.D.Disk.moment g.D.Disk.images l.store).state;
  whole : l.store.memory.broken ≡ None;
}
