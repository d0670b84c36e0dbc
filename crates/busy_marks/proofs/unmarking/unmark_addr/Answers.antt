use Rattle.busy_marks.proofs.UndoLemmas.{failed_undoes, failed_stop, done_undoes, done_stop}
use Rattle.busy_marks.proofs.unmarking.unmark_addr.Goals as goal

pub returns-in-Ok-clause-undoes : goal.returns-in-Ok-clause-undoes
returns-in-Ok-clause-undoes g c =
    done_undoes g.D.Disk.files g.D.Disk.moment g.D.Disk.images c.args.own.now c.args.path.now.list c.args.text.now.list c.args.disk.now c.unmark.new.self c.in-Ok.field-0 c.in-Ok.ensures.both
    g.D.Disk.tells g.D.Disk.content g.met.D.Disk.reads g.met.D.Disk.told c.remove_note.new.disk c.remove_note.result c.in-Ok.ensures.told c.remove_note.ensures.removes

pub returns-in-Ok-clause-stop : goal.returns-in-Ok-clause-stop
returns-in-Ok-clause-stop g c =
    done_stop g.D.Disk.files g.D.Disk.moment g.D.Disk.images c.args.own.now c.args.path.now.list c.args.text.now.list c.args.disk.now c.unmark.new.self c.in-Ok.field-0 c.in-Ok.ensures.both
    c.remove_note.new.disk c.remove_note.ensures.stop

pub returns-in-Err-clause-undoes : goal.returns-in-Err-clause-undoes
returns-in-Err-clause-undoes g c =
    failed_undoes g.D.Disk.files g.D.Disk.moment g.D.Disk.images c.args.own.now c.args.path.now.list c.args.text.now.list c.args.disk.now c.unmark.new.self c.in-Err.field-0 c.in-Err.ensures.both _ c.in-Err.ensures.other

pub returns-in-Err-clause-stop : goal.returns-in-Err-clause-stop
returns-in-Err-clause-stop g c =
    failed_stop g.D.Disk.files g.D.Disk.moment g.D.Disk.images c.args.own.now c.args.path.now.list c.args.text.now.list c.args.disk.now c.unmark.new.self c.in-Err.field-0 c.in-Err.ensures.both
