use Rattle.mem_store.specs.ListStates.{stand_of}
use Rattle.hub_core.specs.Hubs.{hub_state}
use Rattle.hub_core.specs.Opening.{IsWhole}
use Rattle.test_hub.proofs.seats.desk_over.Goals as goal

pub returns : goal.returns
returns c =
    let whole : IsWhole (stand_of c.new-hub.result.store) (hub_state c.new-hub.result.seats) = rw (c.new-hub.ensures.store, c.new-hub.ensures.seats) c.requires in
    let first = c.in_ok-_first.ensures.ready whole in
    c.in_ok-seat.ensures.ready (record { fitted = first.fitted; settled = first.settled })
