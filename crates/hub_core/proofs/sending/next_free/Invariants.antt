use Rattle.std.proofs.Common.{reverse}
use Rattle.std.specs.Prelude.{option_copied}
use Rattle.ftn_addr.specs.Address.{address}
use Rattle.hub_core.proofs.Walking.{Walks, still_behind}
use Rattle.hub_core.specs.Indices.{KeptIf}
use Rattle.hub_core.proofs.sending.next_free.Given as goal

abbrev pub invariant-loop-at : goal.invariant-loop-at
invariant-loop-at g l = Walks (address l.dest) (KeptIf (option_copied l.claims) (reverse l.skips.list.items)) (g.S.Store.stand l.store).state.stock.state.queue l.at

abbrev pub decreases-loop-at : goal.decreases-loop-at
decreases-loop-at g l = still_behind l.at (g.S.Store.stand l.store).state.stock.state.queue
