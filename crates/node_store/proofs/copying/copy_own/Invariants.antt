use Rattle.std.proofs.Common.{◌≡◌, ◌-◌, ◌≤◌}
use Rattle.disk_model.specs.Changes.{Every, Follows, Only}
use Rattle.disk_model.specs.Moments.{Leaves}
use Rattle.node_store.specs.Copying.{HasFront}
use Rattle.node_store.proofs.copying.copy_own.Given as goal

abbrev pub invariant-loop-at : goal.invariant-loop-at
invariant-loop-at g l = record {
  within : l.at ≤ l.size;
  front : Every (g.D.Disk.files l.disk) (HasFront l.from l.to l.at);
  read : Follows (Only l.to) (g.D.Disk.files l.fn.disk) (g.D.Disk.files l.disk);
  stop : Leaves g.D.Disk.moment g.D.Disk.images (Only l.to) l.fn.disk l.disk;
  calm : g.D.Disk.fault_count l.disk ≡ g.D.Disk.fault_count l.fn.disk;
}

abbrev pub decreases-loop-at : goal.decreases-loop-at
decreases-loop-at g l = l.size - l.at
