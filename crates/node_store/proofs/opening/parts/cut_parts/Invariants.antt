use Rattle.std.proofs.Common.{◌≡◌, map, take}
use Rattle.std.specs.List.{AllByRecursion}
use Rattle.disk_model.specs.Changes.{Every, Follows}
use Rattle.disk_model.specs.Moments.{Leaves}
use Rattle.ledger_rec.specs.Items.{part_mark}
use Rattle.node_store.specs.Names.{in_name}
use Rattle.node_store.specs.Clearing.{Restores}
use Rattle.node_store.specs.Tending.{IsTended}
use Rattle.node_store.specs.Worlds.{HasLength}
use Rattle.node_store.proofs.opening.parts.cut_parts.Given as goal

abbrev pub invariant-loop-mark : goal.invariant-loop-mark
invariant-loop-mark g l = record {
  tended : IsTended g.D.Disk.files g.D.Disk.moment g.D.Disk.images l.books.payloads l.books.folding.state l.disk;
  cut : Every (g.D.Disk.files l.disk) (λ w. AllByRecursion (λ m. HasLength (in_name m.number) m.len w) (map part_mark (take l.mark-index l.marks)));
  stop : Leaves g.D.Disk.moment g.D.Disk.images Restores l.fn.disk l.disk;
  read : Follows Restores (g.D.Disk.files l.fn.disk) (g.D.Disk.files l.disk);
  calm : g.D.Disk.fault_count l.disk ≡ g.D.Disk.fault_count l.fn.disk;
}
