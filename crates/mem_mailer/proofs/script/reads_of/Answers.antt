use Rattle.binkp_link.proofs.Pushes.{some_push}
use Rattle.mem_mailer.proofs.script.reads_of.Goals as goal

pub loop-one-preserved : goal.loop-one-preserved
loop-one-preserved c = some_push _ _ _ c.in_ok-push.ensures.items c.loop-one.invariant c.in_ok-read.ensures
