use Rattle.std.proofs.Common.{◌≡◌, map, take}
use Rattle.std.specs.List.{AllByRecursion}
use Rattle.ledger_rec.specs.Items.{entry}
use Rattle.node_store.specs.Keeping.{Beside, IsKeptEntry, IsUntouched}
use Rattle.node_store.proofs.opening.own_files.keep_queue.Given as goal

abbrev pub invariant-loop-item : goal.invariant-loop-item
invariant-loop-item g l = record {
  untouched : IsUntouched g.D.Disk.files g.D.Disk.moment g.D.Disk.images l.fn.disk l.disk;
  kept : Beside g.D.Disk.files g.D.Disk.moment g.D.Disk.images (λ f c. AllByRecursion (λ e. IsKeptEntry e f c) (map entry (take l.item-index l.queue))) l.disk;
  calm : g.D.Disk.fault_count l.disk ≡ g.D.Disk.fault_count l.fn.disk;
}
