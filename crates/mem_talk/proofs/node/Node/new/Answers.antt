use Rattle.std.proofs.Common.{sym, subst}
use Rattle.mem_store.specs.ListStates.{ListState, stand_of}
use Rattle.hub_core.specs.Opening.{IsWhole, no_seats}
use Rattle.mem_store.proofs.NewStores.{new_fits}
use Rattle.mem_talk.proofs.node.Node.new.Goals as goal

-- A new store fits any hub.
pub invariant_of-result : goal.invariant_of-result
invariant_of-result c = λ settings. subst (λ (s : ListState). IsWhole (stand_of s) (no_seats settings)) (sym c.new-2.ensures.empty) (new_fits settings)
