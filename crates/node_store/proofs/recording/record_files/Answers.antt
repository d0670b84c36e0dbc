use Rattle.std.proofs.Common.{map}
use Rattle.disk_model.specs.Changes.{Every}
use Rattle.disk_model.specs.Moments.{Now}
use Rattle.ledger_file.specs.Text.{lists}
use Rattle.ledger_rec.specs.Record.{new_file}
use Rattle.node_store.specs.Planned.{AllSynced}
use Rattle.node_store.proofs.Syncing.{on_ok, synced_run, still_synced}
use Rattle.node_store.proofs.recording.record_files.Goals as goal

pub returns-clause-synced : goal.returns-clause-synced
returns-clause-synced g c =
    on_ok c.append_all.result (Every (Now g.D.Disk.moment g.D.Disk.images c.append_all.new.disk) (AllSynced (g.D.Disk.files c.args.disk.now) (map new_file c.args.files.now)))
    (still_synced g.D.Disk.moment g.D.Disk.images (g.D.Disk.files c.args.disk.now) (map new_file c.args.files.now) c.args.ledger.now.payloads (lists c.args.payloads.now) c.sync_all.new.disk c.append_all.new.disk c.in_ok-sync_all.ensures.synced c.append_all.ensures.stop)

pub returns-clause-stop : goal.returns-clause-stop
returns-clause-stop g c =
    synced_run g.D.Disk.moment g.D.Disk.images (g.D.Disk.files c.args.disk.now) (map new_file c.args.files.now) c.args.ledger.now.payloads (lists c.args.payloads.now) c.args.disk.now c.sync_all.new.disk c.append_all.new.disk c.requires.ready c.in_ok-sync_all.ensures.stop c.in_ok-sync_all.ensures.synced c.append_all.ensures.stop
