use Rattle.std.proofs.Common.{◌≡◌, map, take}
use Rattle.std.specs.List.{AllByRecursion}
use Rattle.ledger_rec.specs.Items.{part_mark}
use Rattle.node_store.specs.Keeping.{Beside, IsKeptMark, IsUntouched}
use Rattle.node_store.proofs.opening.own_files.keep_marks.Given as goal

abbrev pub invariant-loop-mark : goal.invariant-loop-mark
invariant-loop-mark g l = record {
  untouched : IsUntouched g.D.Disk.files g.D.Disk.moment g.D.Disk.images l.fn.disk l.disk;
  kept : Beside g.D.Disk.files g.D.Disk.moment g.D.Disk.images (λ f c. AllByRecursion (λ m. IsKeptMark m f c) (map part_mark (take l.mark-index l.marks))) l.disk;
  calm : g.D.Disk.fault_count l.disk ≡ g.D.Disk.fault_count l.fn.disk;
}
