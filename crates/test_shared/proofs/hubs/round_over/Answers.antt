use Rattle.std.proofs.Common.{◌∙◌, ap}
use Rattle.mem_store.specs.ListStates.{stand_of}
use Rattle.hub_core.specs.Hubs.{hub_state, settings_of}
use Rattle.hub_core.specs.Opening.{IsWhole, with_seat}
use Rattle.test_shared.proofs.Seats.{two_rest}
use Rattle.test_shared.proofs.hubs.round_over.Goals as goal

pub returns : goal.returns
returns c =
    let whole : IsWhole (stand_of c.new-hub.result.store) (hub_state c.new-hub.result.seats) = rw (c.new-hub.ensures.store, c.new-hub.ensures.seats) (c.requires (settings_of c.args.conf)) in
    let first = c.in_ok-_first.ensures.ready whole in
    let ready = c.in_ok-seat.ensures.ready (record { fitted = first.fitted; settled = first.settled }) in
    let seats = c.in_ok-seat.ensures.ok ∙ ap with_seat (c.in_ok-_first.ensures.ok ∙ ap with_seat c.new-hub.ensures.seats) in
    λ k l. two_rest (λ h. stand_of h.store) (λ h. hub_state h.seats) _ (settings_of c.args.conf) _ seats ready k l
