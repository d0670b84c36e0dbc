use Rattle.node_store.proofs.NameLaws.{take_read}
use Rattle.node_store.proofs.laws.take_is_read.Goals as goal

pub returns : goal.returns
returns c = take_read
