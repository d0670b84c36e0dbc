use Rattle.hub_core.specs.Hubs.{hub_state}
use Rattle.hub_core.proofs.Claiming.{seated_finds}
use Rattle.hub_core.proofs.Seating.{given_ready}
use Rattle.hub_core.proofs.HoldSteps.{seated_holds}
use Rattle.hub_core.proofs.hub.Hub.seat.Goals as goal

pub returns-clause-ready : goal.returns-clause-ready
returns-clause-ready g c =
    given_ready c.add_place.result (g.S.Store.stand c.args.self.now.store) (hub_state c.args.self.now.seats) (hub_state c.add_place.new.self) c.add_place.ensures.number c.add_place.ensures.ok

pub invariant_of-self : goal.invariant_of-self
invariant_of-self g c =
    record { claimed = seated_finds c.add_place.result c.args.self.now.claims (hub_state c.args.self.now.seats) (hub_state c.add_place.new.self) c.args.self.now.claimed c.add_place.ensures.ok c.add_place.ensures.err; held = seated_holds c.add_place.result c.args.self.now.holds (hub_state c.args.self.now.seats) (hub_state c.add_place.new.self) c.args.self.now.held c.add_place.ensures.ok c.add_place.ensures.err }
