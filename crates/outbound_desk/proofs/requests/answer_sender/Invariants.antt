use Rattle.std.proofs.Common.{◌≡◌, ◌-◌, ◌^◌, None}
use Rattle.node_store.specs.Stored.{stand_of}
use Rattle.node_store.proofs.Walked.{reached}
use Rattle.outbound_desk.specs.Lines.{TakesIn}
use Rattle.outbound_desk.proofs.requests.answer_sender.Given as goal

abbrev pub decreases-loop-receipt : goal.decreases-loop-receipt
decreases-loop-receipt g l = 2 ^ 32 - reached l.after

abbrev pub invariant-loop-receipt : goal.invariant-loop-receipt
invariant-loop-receipt g l = record {
  takes : TakesIn (stand_of g.D.Disk.tells g.D.Disk.content g.D.Disk.fault_count g.D.Disk.moment g.D.Disk.images l.initial.store) (stand_of g.D.Disk.tells g.D.Disk.content g.D.Disk.fault_count g.D.Disk.moment g.D.Disk.images l.store) None;
  whole : l.store.memory.broken ≡ None;
}
