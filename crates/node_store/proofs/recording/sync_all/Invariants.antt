use Rattle.std.proofs.Common.{◌≡◌, map, take}
use Rattle.disk_model.specs.Changes.{Every, Same}
use Rattle.disk_model.specs.Moments.{Leaves, Now}
use Rattle.ledger_rec.specs.Record.{new_file}
use Rattle.node_store.specs.Planned.{AllSynced}
use Rattle.node_store.proofs.recording.sync_all.Given as goal

abbrev pub invariant-loop-file : goal.invariant-loop-file
invariant-loop-file g l =
    Leaves g.D.Disk.moment g.D.Disk.images Same l.fn.disk l.disk × Every (g.D.Disk.files l.disk) (g.D.Disk.files l.fn.disk) × (g.D.Disk.fault_count l.disk ≡ g.D.Disk.fault_count l.fn.disk)
    × Every (Now g.D.Disk.moment g.D.Disk.images l.disk) (AllSynced (g.D.Disk.files l.fn.disk) (map new_file (take l.file-index l.files)))
