use Rattle.std.proofs.Common.{ap, ◌∙◌}
use Rattle.nodelist_files.proofs.InPlace.{put_leaves, second_leaves, second_reads}
use Rattle.nodelist_files.proofs.replacing.replace.Goals as goal

pub rename-requires : goal.rename-requires
rename-requires g c = λ w read. let there = c.requires w (g.met.D.Disk.as_read c.args.disk.now w read) in (there.0, ap w.own c.new_file-new.ensures ∙ there.1, there.2)

pub returns-in_err-put_file-clause-stop : goal.returns-in_err-put_file-clause-stop
returns-in_err-put_file-clause-stop g c =
    put_leaves g.D.Disk.moment g.D.Disk.images g.D.Disk.files g.met.D.Disk.as_read c.args.index.now c.new_file-new.result c.list_file.result c.new_file-new.ensures c.list_file.ensures
    c.args.disk.now c.rename.new.self c.in_ok-rename.ensures.stop c.in_ok-rename.ensures.read c.put_file.new.disk c.put_file.ensures.stop c.put_file.ensures.read

pub returns-clause-stop : goal.returns-clause-stop
returns-clause-stop g c =
    second_leaves g.D.Disk.moment g.D.Disk.images g.D.Disk.files g.met.D.Disk.as_read c.args.index.now c.new_file-new.result c.list_file.result c.new_file-new.ensures c.list_file.ensures
    c.args.disk.now c.rename.new.self c.in_ok-rename.ensures.stop c.in_ok-rename.ensures.read c.put_file.new.disk c.put_file.ensures.stop c.put_file.ensures.read
    c.index_file.result c.index_file.ensures c.in_ok-put_file.ensures.durable c.rename-2.new.self c.rename-2.result c.rename-2.ensures.stop

pub returns-clause-read : goal.returns-clause-read
returns-clause-read g c =
    second_reads g.D.Disk.moment g.D.Disk.images g.D.Disk.files g.met.D.Disk.as_read c.args.index.now c.new_file-new.result c.list_file.result c.new_file-new.ensures c.list_file.ensures
    c.args.disk.now c.rename.new.self c.in_ok-rename.ensures.stop c.in_ok-rename.ensures.read c.put_file.new.disk c.put_file.ensures.stop c.put_file.ensures.read
    c.index_file.result c.index_file.ensures c.in_ok-put_file.ensures.durable c.rename-2.new.self c.rename-2.result c.rename-2.ensures.read
