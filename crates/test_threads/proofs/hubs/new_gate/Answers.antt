use Rattle.std.proofs.Common.{◌<◌, ℕ, sym, subst}
use Rattle.hub_core.specs.Hubs.{hub_state}
use Rattle.mem_shared.specs.Sights.{sight_by}
use Rattle.mem_store.specs.ListStates.{stand_of}
use Rattle.test_threads.proofs.hubs.new_gate.Goals as goal

pub returns-in-Ok-new-clause-ready : goal.returns-in-Ok-new-clause-ready
returns-in-Ok-new-clause-ready c = λ k l. subst (λ x. (sight_by (λ h. stand_of h.store) (λ h. hub_state h.seats)).ready k x) (sym c.in-Ok-new.ensures.gate.0) (c.in-Ok.ensures k (subst (λ (n : ℕ). k < n) c.in-Ok-new.ensures.passes.0 l))
