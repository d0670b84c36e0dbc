use Rattle.std.proofs.Common.{arith}
use Rattle.node_store.proofs.Straying.{stray_out}
use Rattle.node_store.proofs.opening.strays.is_stray_out.Goals as goal

pub returns-in-Some : goal.returns-in-Some
returns-in-Some c = stray_out c.args.name.now c.in-Some.number c.is_queued.result c.args.queue.now (omega arith) c.in-Some.ensures c.is_queued.ensures
