use Rattle.std.proofs.Common.{◌≡◌, drop, true}
use Rattle.disk_model.specs.Changes.{Every, Follows}
use Rattle.disk_model.specs.Moments.{Leaves}
use Rattle.node_store.specs.Clearing.{ClearsNotes, HasNotesAmong, SameButNotes, SameOut}
use Rattle.node_store.specs.Keeping.{Beside}
use Rattle.node_store.proofs.opening.clearing.clear_each.Given as goal

abbrev pub invariant-loop-name : goal.invariant-loop-name
invariant-loop-name g l = record {
  outside : Beside g.D.Disk.files g.D.Disk.moment g.D.Disk.images SameOut l.disk;
  among : Every (g.D.Disk.files l.disk) (HasNotesAmong (drop l.name-index l.names));
  read : Follows (ClearsNotes l.text.list) (g.D.Disk.files l.fn.disk) (g.D.Disk.files l.disk);
  stop : g.D.Disk.tells ≡ true → Leaves g.D.Disk.moment g.D.Disk.images (ClearsNotes l.text.list) l.fn.disk l.disk;
  aside : Leaves g.D.Disk.moment g.D.Disk.images SameButNotes l.fn.disk l.disk;
  calm : g.D.Disk.fault_count l.disk ≡ g.D.Disk.fault_count l.fn.disk;
}
