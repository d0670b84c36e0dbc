use Rattle.std.proofs.Common.{length}
use Rattle.binkp_frame.specs.Views.{Extends, frame_texts}
use Rattle.binkp_frame.proofs.Taking.{Taken}
use Rattle.binkp_frame.proofs.decoder.take_frames.Given as goal

abbrev pub invariant-loop-command : goal.invariant-loop-command
invariant-loop-command l =
    Taken (frame_texts l.fn.out.items) l.bytes (frame_texts l.out.items) l.rest × Extends l.fn.out.items l.out.items

abbrev pub decreases-loop-command : goal.decreases-loop-command
decreases-loop-command l = length l.rest
