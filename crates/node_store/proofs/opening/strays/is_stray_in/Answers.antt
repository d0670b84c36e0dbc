use Rattle.std.proofs.Common.{arith, rules}
use Rattle.node_store.proofs.Straying.{stray_in, no_stray_in}
use Rattle.node_store.proofs.opening.strays.is_stray_in.Goals as goal

pub returns-then-not-is_marked : goal.returns-then-not-is_marked
returns-then-not-is_marked c = stray_in c.args.name.now c.in-Some.number c.is_marked.result c.args.marks.now c.args.inbox.now c.in-Some.ensures c.is_marked.ensures c.is_received.result (omega arith) (search rules) c.is_received.ensures

pub returns-else-not-is_marked : goal.returns-else-not-is_marked
returns-else-not-is_marked c = no_stray_in c.args.name.now c.in-Some.number c.is_marked.result c.args.marks.now c.args.inbox.now c.in-Some.ensures c.is_marked.ensures (search rules)
