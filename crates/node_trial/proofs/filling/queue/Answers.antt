use Rattle.std.proofs.Common.{rules, refl}
use Rattle.node_trial.specs.Parties.{stand_in}
use Rattle.node_trial.proofs.Batches.{drawn_batch}
use Rattle.node_trial.proofs.filling.queue.Goals as goal

pub queue_all-requires-clause-batch : goal.queue_all-requires-clause-batch
queue_all-requires-clause-batch c =
    drawn_batch (stand_in c.args.store.now).state (stand_in c.stage.new.self).state c.args.bytes.now c.stage.result c.in_ok-number.number _ c.numbers_are_drawn.ensures.queued c.numbers_are_drawn.ensures.staged c.stage.ensures.made c.in_ok-number.was refl c.requires.size (search (rules))
