use Rattle.busy_marks.proofs.NoteLemmas.{path_before}
use Rattle.busy_marks.proofs.Runs.{stays}
use Rattle.busy_marks.proofs.clearing.read_note.Goals as goal

pub returns-in-Ok-Some-clause-path : goal.returns-in-Ok-Some-clause-path
returns-in-Ok-Some-clause-path g c =
    path_before (g.D.Disk.files c.args.disk.now) (g.D.Disk.files c.stat.new.self) c.args.own.now c.read_path.result
    (stays g.D.Disk.tells g.D.Disk.content g.D.Disk.files g.met.D.Disk.reads g.met.D.Disk.told c.args.disk.now c.stat.new.self c.stat.ensures.read) c.read_path.ensures.path
