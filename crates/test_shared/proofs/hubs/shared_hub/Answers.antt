use Rattle.std.proofs.Common.{sym, subst}
use Rattle.mem_store.specs.ListStates.{stand_of}
use Rattle.hub_core.specs.Hubs.{hub_state}
use Rattle.test_shared.specs.Resting.{Rests}
use Rattle.mem_shared.specs.Sights.{sight_by}
use Rattle.test_shared.proofs.Seats.{fresh}
use Rattle.test_shared.proofs.hubs.shared_hub.Goals as goal

pub returns-in-Ok-new : goal.returns-in-Ok-new
returns-in-Ok-new c =
    let s = sight_by (λ h. stand_of h.store) (λ h. hub_state h.seats) in (
      c.in-Ok-new.ensures.passes.0,
      λ k d l.
          let n = c.in-Ok-new.ensures.passes.1 k d l in
          fresh s _ _ _ k n.0 n.1 (subst (λ x. Rests s k x) (sym c.in-Ok-new.ensures.gate.0) (c.in-Ok.ensures k l)),
    )
