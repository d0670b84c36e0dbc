use Rattle.mem_node.proofs.Whole.{answered_whole}
use Rattle.mem_node.proofs.marks.mark_in_store.Goals as goal

pub unmark-requires-clause-whole : goal.unmark-requires-clause-whole
unmark-requires-clause-whole c = answered_whole _ _ _ _ c.in_ok-mark.ensures.marks.1 c.requires.whole
