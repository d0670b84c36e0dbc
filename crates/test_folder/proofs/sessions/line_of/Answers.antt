use Rattle.binkp_link.proofs.Pushes.{some_push}
use Rattle.test_folder.proofs.sessions.line_of.Goals as goal

pub loop-turn-preserved : goal.loop-turn-preserved
loop-turn-preserved c = some_push _ _ _ c.in_ok-push.ensures.items c.loop-turn.invariant c.in_ok-read.ensures

pub new-requires-2-clause-give : goal.new-requires-2-clause-give
new-requires-2-clause-give c = some_push _ _ _ c.in_ok-push-2.ensures.items c.loop-turn.invariant tt
