use Rattle.std.proofs.Common.{sym}
use Rattle.busy_marks.proofs.ClearLemmas.{clears_empty, clears_path}
use Rattle.busy_marks.proofs.clearing.undo.Goals as goal

pub returns-then-is_empty-clause-undoes : goal.returns-then-is_empty-clause-undoes
returns-then-is_empty-clause-undoes g c =
    clears_empty g.D.Disk.files g.D.Disk.moment g.D.Disk.images c.remove_note.result c.args.own.now c.args.path.now.list c.args.text.now.list c.args.disk.now c.remove_note.new.disk (sym c.if-is_empty.ensures) c.remove_note.ensures.removes

pub returns-else-is_empty-clause-undoes : goal.returns-else-is_empty-clause-undoes
returns-else-is_empty-clause-undoes g c =
    clears_path g.D.Disk.files g.D.Disk.moment g.D.Disk.images c.unmark_addr.result c.args.own.now c.args.path.now.list c.args.text.now.list c.args.disk.now c.unmark_addr.new.disk (sym c.if-is_empty.ensures) c.unmark_addr.ensures.undoes
