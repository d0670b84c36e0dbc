use Rattle.std.proofs.Common.{Ok, Err}
use Rattle.busy_marks.specs.declared.fault.ClearFault.TheVariants.{Failed}
use Rattle.busy_marks.proofs.ClearLemmas.{clears}
use Rattle.busy_marks.proofs.clearing.clear_note.Goals as goal

pub returns-in-Ok-undo-clause-undoes : goal.returns-in-Ok-undo-clause-undoes
returns-in-Ok-undo-clause-undoes g c =
    clears g.D.Disk.files g.D.Disk.moment g.D.Disk.images c.args.own.now c.args.text.now.list c.args.disk.now c.read_note.new.disk c.read_note.ensures.read c.read_note.ensures.stop
    g.D.Disk.tells g.D.Disk.content g.met.D.Disk.reads g.met.D.Disk.told c.in-Ok.path.list c.undo.new.disk (Ok tt) (Ok tt) (λ made is. is) c.in-Ok.ensures.path c.in-Ok-undo.ensures.undoes

pub returns-in-Ok-clause-undoes : goal.returns-in-Ok-clause-undoes
returns-in-Ok-clause-undoes g c =
    clears g.D.Disk.files g.D.Disk.moment g.D.Disk.images c.args.own.now c.args.text.now.list c.args.disk.now c.read_note.new.disk c.read_note.ensures.read c.read_note.ensures.stop
    g.D.Disk.tells g.D.Disk.content g.met.D.Disk.reads g.met.D.Disk.told c.in-Ok.path.list c.undo.new.disk c.undo.result (Err Failed) (λ made is. tt) c.in-Ok.ensures.path c.undo.ensures.undoes
