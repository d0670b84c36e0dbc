use Rattle.std.proofs.Common.{rules, refl}
use Rattle.mem_talk.proofs.Queueing.{queued_whole}
use Rattle.mem_talk.proofs.node.queue.Goals as goal

pub returns : goal.returns
returns c = queued_whole _ _ _ _ _ _ _ (search rules) (search rules) refl c.in_ok-number.ensures.kept (c.is_batch-fits.ensures c.if-not-fits.false) c.in_ok-queue_all.ensures.kept c.requires.fits
