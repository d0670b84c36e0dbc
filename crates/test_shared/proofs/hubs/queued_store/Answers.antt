use Rattle.std.proofs.Common.{sym, subst}
use Rattle.mem_store.specs.ListStates.{ListState, stand_of}
use Rattle.hub_core.specs.Opening.{IsWhole, no_seats}
use Rattle.mem_store.proofs.NewStores.{new_fits}
use Rattle.test_shared.proofs.hubs.queued_store.Goals as goal

pub returns-in-Ok : goal.returns-in-Ok
returns-in-Ok c = c.in-Ok.ensures (λ settings. subst (λ (s : ListState). IsWhole (stand_of s) (no_seats settings)) (sym c.new-store.ensures.empty) (new_fits settings))
