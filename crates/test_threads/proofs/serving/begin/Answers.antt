use Rattle.std.proofs.Common.{◌∙◌}
use Rattle.test_threads.proofs.Backs.{out_and_back}
use Rattle.test_threads.proofs.serving.begin.Goals as goal

pub returns-in-Err : goal.returns-in-Err
returns-in-Err g c =
    let lent = c.in-Some.ensures.some in
    out_and_back c.args.slots.now c.lend.new.self c.put_back.new.self _ _ _ c.requires.none_out lent.is (c.in-Err.ensures.refused.seat_is ∙ lent.at_home.seat_is) c.put_back.ensures
