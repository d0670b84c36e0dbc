use Rattle.nodelist_files.specs.Files.{new_name}
use Rattle.nodelist_files.proofs.Alone.{after_copy, after_none}
use Rattle.nodelist_files.proofs.Staged.{copied}
use Rattle.nodelist_files.proofs.staging.copy_text.Goals as goal

pub returns-in_err-sync-in-Copied-clause-stop : goal.returns-in_err-sync-in-Copied-clause-stop
returns-in_err-sync-in-Copied-clause-stop g c =
    let first = after_copy g.D.Disk.moment g.D.Disk.images new_name c.new_file-name.result c.new_file-name.ensures c.copy.result 16777216 c.args.disk.now c.copy.new.self c.copy.ensures.stop in
    after_none g.D.Disk.moment g.D.Disk.images new_name c.args.disk.now c.copy.new.self c.sync.new.self first c.sync.ensures.stop

pub returns-in_ok-sync-in-Copied-clause-stop : goal.returns-in_ok-sync-in-Copied-clause-stop
returns-in_ok-sync-in-Copied-clause-stop g c =
    let first = after_copy g.D.Disk.moment g.D.Disk.images new_name c.new_file-name.result c.new_file-name.ensures c.copy.result 16777216 c.args.disk.now c.copy.new.self c.copy.ensures.stop in
    after_none g.D.Disk.moment g.D.Disk.images new_name c.args.disk.now c.copy.new.self c.sync.new.self first c.sync.ensures.stop

pub returns-in_ok-sync-in-Copied-clause-copied : goal.returns-in_ok-sync-in-Copied-clause-copied
returns-in_ok-sync-in-Copied-clause-copied g c =
    copied g.D.Disk.files g.D.Disk.moment g.D.Disk.images c.args.path.now.list c.new_file-name.result c.new_file-name.ensures c.in_ok-stat.field-0 c.in-Copied.stat c.in-Copied.is c.args.disk.now c.copy.new.self c.sync.new.self
    c.in_ok-stat.ensures.told c.in_ok-stat.ensures.read c.in_ok-sync-in-Copied.ensures.durable
