use Rattle.std.proofs.Common.{rules, refl}
use Rattle.mem_node.proofs.Batches.{new_batch}
use Rattle.mem_node.proofs.queues.queue.Goals as goal

pub queue_all-requires-clause-batch : goal.queue_all-requires-clause-batch
queue_all-requires-clause-batch c =
    new_batch c.args.store.now c.stage.new.self c.args.bytes.now c.stage.result c.in_ok-number.number _ c.requires.new c.opens_soundly.ensures c.stage.ensures.made c.in_ok-number.was refl c.requires.size (search (rules))
