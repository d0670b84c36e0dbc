use Rattle.std.proofs.Common.{◌∙◌, ap}
use Rattle.node_store.specs.Standing.{found_under}
use Rattle.node_store.proofs.Standing.{found_more, listed_stands}
use Rattle.node_store.proofs.Untouched.{untouched-then}
use Rattle.node_store.proofs.opening.standing.keep_takes.Goals as goal

pub keep_take-requires : goal.keep_take-requires
keep_take-requires g c = record { stands = λ w read. listed_stands w c.args.names.now c.loop-name.name-index c.name-item.result c.loop-name-test.true c.name-item.is (c.requires w (c.loop-name.invariant.untouched.read w read)) }

pub loop-name-preserved : goal.loop-name-preserved
loop-name-preserved g c = record {
  untouched = untouched-then g.D.Disk.files g.D.Disk.moment g.D.Disk.images c.args.disk.now c.loop-name.disk c.keep_take.new.disk c.loop-name.invariant.untouched c.keep_take.ensures.untouched;
  takes = c.in-Ok.ensures.takes ∙ ap (found_under c.args.recorded.now c.name-item.result) c.loop-name.invariant.takes ∙ found_more c.args.recorded.now c.args.names.now c.loop-name.name-index c.name-item.result c.loop-name-test.true c.name-item.is;
  kept = c.in-Ok.ensures.kept c.loop-name.invariant.kept;
  calm = c.in-Ok.ensures.reason.calm ∙ c.loop-name.invariant.calm;
}
