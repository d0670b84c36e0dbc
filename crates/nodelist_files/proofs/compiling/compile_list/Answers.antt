use Rattle.std.proofs.Common.{inl, inr, arith}
use Rattle.nodelist_files.specs.declared.fault.CompileFault.TheVariants as F
use Rattle.nodelist_files.proofs.Compiled.{cleared_leaves, cleared_reads, clears, kept_leaves, replaced_leaves, replaced_reads, still_err}
use Rattle.nodelist_files.proofs.compiling.compile_list.Goals as goal

pub returns-in_err-replace-in-Ok-clause-stop : goal.returns-in_err-replace-in-Ok-clause-stop
returns-in_err-replace-in-Ok-clause-stop g c =
    replaced_leaves g.D.Disk.moment g.D.Disk.images g.D.Disk.files g.met.D.Disk.as_read c.args.path.now.list c.args.disk.now c.stage.new.disk c.stage.ensures.stop c.stage.ensures.read
    c.as_slice.result.now c.in-Ok.made.index.list c.as_slice.ensures c.in-Ok.made.count c.in-Ok.ensures.staged c.replace.new.disk c.replace.ensures.stop

pub returns-in_err-replace-in-Ok-clause-read : goal.returns-in_err-replace-in-Ok-clause-read
returns-in_err-replace-in-Ok-clause-read g c =
    replaced_reads g.D.Disk.moment g.D.Disk.images g.D.Disk.files g.met.D.Disk.as_read c.args.path.now.list c.args.disk.now c.stage.new.disk c.stage.ensures.stop c.stage.ensures.read
    c.as_slice.result.now c.in-Ok.made.index.list c.as_slice.ensures c.in-Ok.made.count c.in-Ok.ensures.staged c.replace.new.disk c.replace.ensures.read

pub returns-in_ok-replace-in-Ok-clause-stop : goal.returns-in_ok-replace-in-Ok-clause-stop
returns-in_ok-replace-in-Ok-clause-stop g c =
    replaced_leaves g.D.Disk.moment g.D.Disk.images g.D.Disk.files g.met.D.Disk.as_read c.args.path.now.list c.args.disk.now c.stage.new.disk c.stage.ensures.stop c.stage.ensures.read
    c.as_slice.result.now c.in-Ok.made.index.list c.as_slice.ensures c.in-Ok.made.count c.in-Ok.ensures.staged c.replace.new.disk c.replace.ensures.stop

pub returns-in_ok-replace-in-Ok-clause-read : goal.returns-in_ok-replace-in-Ok-clause-read
returns-in_ok-replace-in-Ok-clause-read g c =
    replaced_reads g.D.Disk.moment g.D.Disk.images g.D.Disk.files g.met.D.Disk.as_read c.args.path.now.list c.args.disk.now c.stage.new.disk c.stage.ensures.stop c.stage.ensures.read
    c.as_slice.result.now c.in-Ok.made.index.list c.as_slice.ensures c.in-Ok.made.count c.in-Ok.ensures.staged c.replace.new.disk c.replace.ensures.read

pub returns-in_ok-clear-in-Err : goal.returns-in_ok-clear-in-Err
returns-in_ok-clear-in-Err g c =
    let first = c.stage.ensures.stop in
    let read = c.stage.ensures.read in
    let later = c.clear.ensures.cause.later in
    record {
      answer = λ w there. elim c.in-Err.ensures.fault [ inl may ↦ inl may | inr is ↦ inr (is w there) ];
      disk = λ is. let rose = c.in-Err.ensures.disk (still_err c.in-Err.fault F.Disk is) in omega (arith, rose, later);
      faults = let before = c.in-Err.ensures.faults in omega (arith, before, later);
      calm = tt;
      stop = cleared_leaves g.D.Disk.moment g.D.Disk.images g.D.Disk.files g.met.D.Disk.as_read c.args.path.now.list c.args.disk.now c.stage.new.disk first read c.clear.new.disk c.clear.ensures.stop c.clear.ensures.read;
      read = cleared_reads g.D.Disk.moment g.D.Disk.images g.D.Disk.files g.met.D.Disk.as_read c.args.path.now.list c.args.disk.now c.stage.new.disk first read c.clear.new.disk c.clear.ensures.stop c.clear.ensures.read;
      compiled = tt;
      durable = tt;
      kept = inr (kept_leaves g.D.Disk.moment g.D.Disk.images g.D.Disk.files g.met.D.Disk.as_read c.args.path.now.list c.args.disk.now c.stage.new.disk first read c.clear.new.disk c.clear.ensures.stop c.clear.ensures.read);
      cleared = inr (clears g.D.Disk.moment g.D.Disk.images g.D.Disk.files g.met.D.Disk.as_read c.args.path.now.list c.args.disk.now c.stage.new.disk first read c.clear.new.disk c.clear.ensures.stop c.clear.ensures.read c.in_ok-clear-in-Err.ensures.free);
    }
