use Rattle.hub_core.proofs.Sittings.{seats_after}
use Rattle.hub_core.proofs.places.Seats.put_session.Goals as goal

pub returns : goal.returns
returns c = seats_after c.args.self.now c.args.seat c.index_mut-place.result.now c.args.session c.requires c.index_mut-place.ensures.value
