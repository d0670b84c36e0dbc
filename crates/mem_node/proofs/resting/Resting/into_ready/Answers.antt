use Rattle.mem_node.proofs.Whole.{rests_ready}
use Rattle.mem_node.proofs.resting.Resting.into_ready.Goals as goal

pub returns : goal.returns
returns c = rests_ready c.args.self.disk c.what_is_read_is_ready.ensures c.args.self.rest
