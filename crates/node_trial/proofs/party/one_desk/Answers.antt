use Rattle.hub_core.specs.Hubs.{IsReady, hub_state, settings_of}
use Rattle.hub_core.specs.Opening.{IsWhole}
use Rattle.node_trial.specs.Parties.{stand_in}
use Rattle.node_trial.proofs.party.one_desk.Goals as goal

pub returns-clause-ready : goal.returns-clause-ready
returns-clause-ready c =
    let whole : IsWhole (stand_in c.new-hub.result.store) (hub_state c.new-hub.result.seats) = rw (c.new-hub.ensures.store, c.new-hub.ensures.seats) (c.requires (settings_of c.args.conf)) in
    let ready : IsReady (stand_in c.seat.new.self.store) (hub_state c.seat.new.self.seats) c.in_ok-seat.seat = c.in_ok-seat.ensures.ready whole in
    rw c.in_ok-new.ensures.ok ready
