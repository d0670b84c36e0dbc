use Rattle.std.proofs.Common.{◌≡◌, None}
use Rattle.node_store.specs.Stored.{stand_of}
use Rattle.outbound_desk.specs.Lines.{TakesIn}
use Rattle.outbound_desk.proofs.requests.answer_senders.Given as goal

abbrev pub invariant-loop-from : goal.invariant-loop-from
invariant-loop-from g l = record {
  takes : TakesIn (stand_of g.D.Disk.tells g.D.Disk.content g.D.Disk.fault_count g.D.Disk.moment g.D.Disk.images l.initial.store) (stand_of g.D.Disk.tells g.D.Disk.content g.D.Disk.fault_count g.D.Disk.moment g.D.Disk.images l.store) None;
  whole : l.store.memory.broken ≡ None;
}
