use Rattle.test_threads.proofs.Backs.{over_back}
use Rattle.test_threads.proofs.serving.end_one.Goals as goal

pub returns-in-Some : goal.returns-in-Some
returns-in-Some g c = let over = c.in-Some.ensures.over in over_back c.args.slots.now c.end.new.self c.args.seat over.left c.requires over.is
