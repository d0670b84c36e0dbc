use Rattle.std.proofs.Common.{rules, refl, ap, ◌∙◌, Ok}
use Rattle.mem_node.proofs.Batches.{new_copy}
use Rattle.mem_node.proofs.gifts.queue_copy.Goals as goal

pub queue_all-requires-clause-batch : goal.queue_all-requires-clause-batch
queue_all-requires-clause-batch c =
    new_copy c.args.store.now c.stage_copy.new.self c.args.path.list c.stage_copy.result c.in-Copied.number c.in-Copied.stat _ c.requires.new c.opens_soundly.ensures c.stage_copy.ensures.kept.made (c.in_ok-number.was ∙ ap Ok c.in-Copied.is) refl refl (search (rules))
