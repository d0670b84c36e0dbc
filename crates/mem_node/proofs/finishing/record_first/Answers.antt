use Rattle.mem_node.specs.Left.{told_state}
use Rattle.mem_node.proofs.Lefts.{one_batch}
use Rattle.mem_node.proofs.Whole.{queued_whole}
use Rattle.mem_node.proofs.finishing.record_first.Goals as goal

pub queue_all-requires-clause-batch : goal.queue_all-requires-clause-batch
queue_all-requires-clause-batch c = one_batch c.in-Some.first (told_state c.args.store.now) c.in-Some.ensures c.if-first.false c.if-first-eq0.false

pub returns : goal.returns
returns c = queued_whole _ _ _ _ _ c.in_ok-queue_all.ensures.kept c.requires
