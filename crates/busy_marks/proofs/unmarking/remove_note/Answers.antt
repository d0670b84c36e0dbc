use Rattle.busy_marks.proofs.NoteLemmas.{note_of, removes, removed_stop}
use Rattle.busy_marks.proofs.unmarking.remove_note.Goals as goal

pub returns-in-Ok-Some-clause-removes : goal.returns-in-Ok-Some-clause-removes
returns-in-Ok-Some-clause-removes g c = λ w read.
    let at = note_of (w.own c.args.own.now) c.in-Ok-Some.field-0 c.in-Ok-Some.field-0-0 c.in-Ok-Some.field-0-is (c.in-Ok-Some.ensures.told w read) in
    removes g.D.Disk.files g.D.Disk.moment g.D.Disk.images c.args.own.now c.args.disk.now c.stat.new.self c.stat.ensures.read c.stat.ensures.stop c.remove.new.self c.remove.result c.remove.ensures.read c.remove.ensures.stop (w.own c.args.own.now) at.0 at.1

pub returns-in-Ok-Some-clause-stop : goal.returns-in-Ok-Some-clause-stop
returns-in-Ok-Some-clause-stop g c =
    removed_stop g.D.Disk.files g.D.Disk.moment g.D.Disk.images c.args.own.now c.args.disk.now c.stat.new.self c.stat.ensures.read c.stat.ensures.stop c.remove.new.self c.remove.result c.remove.ensures.read c.remove.ensures.stop
