use Rattle.nodelist_files.specs.Files.{new_name}
use Rattle.nodelist_files.proofs.Alone.{after_none, after_remove, begun}
use Rattle.nodelist_files.proofs.replacing.clear.Goals as goal

pub returns-in-Some-clause-stop : goal.returns-in-Some-clause-stop
returns-in-Some-clause-stop g c =
    let looked = after_none g.D.Disk.moment g.D.Disk.images new_name c.args.disk.now c.args.disk.now c.stat.new.self (begun g.D.Disk.moment g.D.Disk.images new_name c.args.disk.now) c.stat.ensures.stop in
    after_remove g.D.Disk.moment g.D.Disk.images new_name c.new_file-new.result c.new_file-new.ensures c.remove.result c.args.disk.now c.stat.new.self c.remove.new.self looked c.remove.ensures.stop
