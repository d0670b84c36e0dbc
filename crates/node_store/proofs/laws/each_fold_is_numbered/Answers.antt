use Rattle.node_store.proofs.Numbered.{numbered_fold}
use Rattle.node_store.proofs.laws.each_fold_is_numbered.Goals as goal

pub returns : goal.returns
returns c = numbered_fold
