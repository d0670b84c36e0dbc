use Rattle.std.proofs.Common.{refl, ◌∙◌, arith}
use Rattle.node_store.proofs.ClearedNotes.{clears-same}
use Rattle.node_store.proofs.ClearedStore.{among_more, among_none, aside_leaves, aside_refl, clears_leaves, clears_refl, reads_on}
use Rattle.node_store.proofs.opening.clearing.clear_each.Goals as goal

pub returns-in-Err-clause-read : goal.returns-in-Err-clause-read
returns-in-Err-clause-read g c = reads_on c.args.text.now.list (g.D.Disk.files c.args.disk.now) (g.D.Disk.files c.loop-name.disk) (g.D.Disk.files c.clear_if_note.new.disk) c.loop-name.invariant.read c.clear_if_note.ensures.read

pub returns-in-Err-clause-stop : goal.returns-in-Err-clause-stop
returns-in-Err-clause-stop g c = λ t. clears_leaves g.D.Disk.moment g.D.Disk.images c.args.text.now.list c.args.disk.now c.loop-name.disk c.clear_if_note.new.disk (c.loop-name.invariant.stop t) (c.clear_if_note.ensures.stop t)

pub returns-in-Err-clause-aside : goal.returns-in-Err-clause-aside
returns-in-Err-clause-aside g c = aside_leaves g.D.Disk.moment g.D.Disk.images c.args.disk.now c.loop-name.disk c.clear_if_note.new.disk c.loop-name.invariant.aside c.clear_if_note.ensures.aside

pub loop-name-init : goal.loop-name-init
loop-name-init g c = record {
  outside = c.requires.outside;
  among = c.requires.among;
  read = λ w read. (w, read, clears-same c.args.text.now.list w w refl);
  stop = λ t. clears_refl g.D.Disk.moment g.D.Disk.images c.args.text.now.list c.args.disk.now;
  aside = aside_refl g.D.Disk.moment g.D.Disk.images c.args.disk.now;
  calm = refl;
}

pub loop-name-preserved : goal.loop-name-preserved
loop-name-preserved g c = record {
  outside = c.in-Ok.ensures.outside;
  among = among_more c.args.names.now c.loop-name.name-index c.name-item.result c.loop-name-test.true c.name-item.is c.args.text.now.list (g.D.Disk.files c.loop-name.disk) (g.D.Disk.files c.clear_if_note.new.disk) c.loop-name.invariant.among c.in-Ok.ensures.gone c.clear_if_note.ensures.read;
  read = reads_on c.args.text.now.list (g.D.Disk.files c.args.disk.now) (g.D.Disk.files c.loop-name.disk) (g.D.Disk.files c.clear_if_note.new.disk) c.loop-name.invariant.read c.clear_if_note.ensures.read;
  stop = λ t. clears_leaves g.D.Disk.moment g.D.Disk.images c.args.text.now.list c.args.disk.now c.loop-name.disk c.clear_if_note.new.disk (c.loop-name.invariant.stop t) (c.clear_if_note.ensures.stop t);
  aside = aside_leaves g.D.Disk.moment g.D.Disk.images c.args.disk.now c.loop-name.disk c.clear_if_note.new.disk c.loop-name.invariant.aside c.clear_if_note.ensures.aside;
  calm = c.in-Ok.ensures.reason.calm ∙ c.loop-name.invariant.calm;
}

pub returns-clause-none : goal.returns-clause-none
returns-clause-none g c = λ w read. among_none c.args.names.now c.loop-name.name-index w (omega arith) (c.loop-name.invariant.among w read)
