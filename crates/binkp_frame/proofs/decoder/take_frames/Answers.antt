use Rattle.binkp_frame.proofs.Taking.{one_more, extends_more}
use Rattle.binkp_frame.proofs.decoder.take_frames.Goals as goal

pub loop-command-preserved : goal.loop-command-preserved
loop-command-preserved c =
    let ok = c.in_ok-push_frame.ensures.ok in
    (one_more _ _ _ _ _ _ (record { command = c.in-Some.command; body = c.in-Some.body.now }) c.in-Some.ensures.short c.in-Some.ensures.some ok c.loop-command.invariant.0, extends_more _ _ _ c.loop-command.invariant.1 c.push_frame.ensures.kept)
