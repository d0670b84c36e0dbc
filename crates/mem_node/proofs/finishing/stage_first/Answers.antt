use Rattle.mem_node.specs.Left.{told_state}
use Rattle.mem_node.proofs.Lefts.{one_stands}
use Rattle.mem_node.proofs.finishing.stage_first.Goals as goal

pub stage_own-requires-clause-stands : goal.stage_own-requires-clause-stands
stage_own-requires-clause-stands c = one_stands c.in-Some.first (told_state c.args.store.now) c.in-Some.ensures
