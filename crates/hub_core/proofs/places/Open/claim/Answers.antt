use Rattle.hub_core.proofs.places.Open.claim.Goals as goal

pub invariant_of-self : goal.invariant_of-self
invariant_of-self g c = record { room = λ x is. c.make_room.ensures.kept x.number (c.args.self.now.offers.room x is) }
