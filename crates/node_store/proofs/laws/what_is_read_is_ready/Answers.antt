use Rattle.node_store.proofs.Unrefused.{ready_read}
use Rattle.node_store.proofs.laws.what_is_read_is_ready.Goals as goal

pub returns : goal.returns
returns c = ready_read
