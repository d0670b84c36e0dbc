use Rattle.std.proofs.Common.{◌∙◌, arith}
use Rattle.node_store.proofs.Recovering.{leaves-then}
use Rattle.node_store.proofs.Rest.{reads-then, rest_more, parts_more, rest_none}
use Rattle.node_store.proofs.opening.strays.remove_strays.Goals as goal

pub returns-in-Err-clause-stop : goal.returns-in-Err-clause-stop
returns-in-Err-clause-stop g c = leaves-then g.D.Disk.moment g.D.Disk.images c.args.disk.now c.loop-name.disk c.remove_if_stray.new.disk c.loop-name.invariant.stop c.remove_if_stray.ensures.stop

pub returns-in-Err-clause-read : goal.returns-in-Err-clause-read
returns-in-Err-clause-read g c = reads-then (g.D.Disk.files c.args.disk.now) (g.D.Disk.files c.loop-name.disk) (g.D.Disk.files c.remove_if_stray.new.disk) c.loop-name.invariant.read c.remove_if_stray.ensures.read

pub loop-name-preserved : goal.loop-name-preserved
loop-name-preserved g c =
    let s = c.args.books.now.folding.state in
    let x = c.name-item.result in
    let old = g.D.Disk.files c.loop-name.disk in
    let new = g.D.Disk.files c.remove_if_stray.new.disk in
    record {
      tended = c.in-Ok.ensures.tended;
      rest = rest_more s c.args.names.now c.loop-name.name-index x c.loop-name-test.true c.name-item.is old new c.in-Ok.gone c.loop-name.invariant.rest c.in-Ok.ensures.tidied;
      parts = λ cut. parts_more s x old new c.in-Ok.gone (c.loop-name.invariant.parts cut) c.in-Ok.ensures.tidied;
      stop = leaves-then g.D.Disk.moment g.D.Disk.images c.args.disk.now c.loop-name.disk c.remove_if_stray.new.disk c.loop-name.invariant.stop c.remove_if_stray.ensures.stop;
      read = reads-then (g.D.Disk.files c.args.disk.now) old new c.loop-name.invariant.read c.remove_if_stray.ensures.read;
      calm = c.in-Ok.ensures.reason.calm ∙ c.loop-name.invariant.calm;
    }

pub returns-clause-none : goal.returns-clause-none
returns-clause-none g c = λ w read. rest_none c.args.books.now.folding.state c.args.names.now c.loop-name.name-index w (omega arith) (c.loop-name.invariant.rest w read)
