use Rattle.std.proofs.Common.{get_or, refl}
use Rattle.node_store.proofs.StillKept.{taken_more}
use Rattle.node_store.proofs.opening.numbers.take_out.Goals as goal

pub loop-number-preserved : goal.loop-number-preserved
loop-number-preserved c = λ p old.
    let i = c.loop-number.number-index in taken_more c.remove.new.self p c.args.given.now i (get_or c.args.given.now i 0) c.loop-number-test.true refl (c.remove.ensures _ (c.loop-number.invariant p old))
