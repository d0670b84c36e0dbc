use Rattle.std.proofs.Common.{◌≡◌, drop}
use Rattle.disk_model.specs.Changes.{Every, Follows}
use Rattle.disk_model.specs.Moments.{Leaves}
use Rattle.node_store.specs.Clearing.{Restores}
use Rattle.node_store.specs.Tending.{HasCutParts, HasRest, IsTended}
use Rattle.node_store.proofs.opening.strays.remove_strays.Given as goal

abbrev pub invariant-loop-name : goal.invariant-loop-name
invariant-loop-name g l = record {
  tended : IsTended g.D.Disk.files g.D.Disk.moment g.D.Disk.images l.books.payloads l.books.folding.state l.disk;
  rest : Every (g.D.Disk.files l.disk) (HasRest l.books.folding.state (drop l.name-index l.names));
  parts : Every (g.D.Disk.files l.fn.disk) (HasCutParts l.books.folding.state) → Every (g.D.Disk.files l.disk) (HasCutParts l.books.folding.state);
  stop : Leaves g.D.Disk.moment g.D.Disk.images Restores l.fn.disk l.disk;
  read : Follows Restores (g.D.Disk.files l.fn.disk) (g.D.Disk.files l.disk);
  calm : g.D.Disk.fault_count l.disk ≡ g.D.Disk.fault_count l.fn.disk;
}
