use Rattle.mem_node.specs.Left.{told_state}
use Rattle.mem_node.proofs.Lefts.{one_recorded}
use Rattle.mem_node.proofs.finishing.finish_first.Goals as goal

pub finish_take-requires-clause-recorded : goal.finish_take-requires-clause-recorded
finish_take-requires-clause-recorded c = one_recorded c.in-Some.first (told_state c.args.store.now) c.in-Some.ensures c.if-not-first.false
