use Rattle.node_store.proofs.opening.numbers.kept.Goals as goal

pub returns : goal.returns
returns c = c.take_out.ensures _ c.received-numbers.ensures
