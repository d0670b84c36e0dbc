use Rattle.std.proofs.Common.{◌≡◌, fold, take}
use Rattle.node_store.specs.Keeping.{Beside, IsUntouched}
use Rattle.node_store.specs.Standing.{AreKept, behind, found_under}
use Rattle.node_store.proofs.opening.standing.keep_takes.Given as goal

abbrev pub invariant-loop-name : goal.invariant-loop-name
invariant-loop-name g l = record {
  untouched : IsUntouched g.D.Disk.files g.D.Disk.moment g.D.Disk.images l.fn.disk l.disk;
  takes : l.takes ≡ fold (λ t name. found_under l.recorded name t) (behind l.recorded) (take l.name-index l.names);
  kept : Beside g.D.Disk.files g.D.Disk.moment g.D.Disk.images (AreKept l.takes) l.disk;
  calm : g.D.Disk.fault_count l.disk ≡ g.D.Disk.fault_count l.fn.disk;
}
