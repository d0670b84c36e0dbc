use Rattle.std.proofs.Common.{◌∷◌, map, reverse, take}
use Rattle.std.specs.Prelude.{option_copied}
use Rattle.ftn_addr.specs.Address.{address}
use Rattle.hub_core.specs.Indices.{KeptIf}
use Rattle.hub_core.specs.Sending.{NextFree}
use Rattle.hub_core.proofs.sending.next_for.Given as goal

abbrev pub invariant-loop-peer : goal.invariant-loop-peer
invariant-loop-peer g l = NextFree (address l.first ∷ map address (take l.peer-index l.others)) (KeptIf (option_copied l.claims) (reverse l.skips.list.items)) (g.S.Store.stand l.store).state.stock.state.queue l.least
