use Rattle.hub_core.proofs.ReadSteps.{seats_reading}
use Rattle.hub_core.proofs.places.Seats.count_read.Goals as goal

pub returns : goal.returns
returns c =
    seats_reading c.args.self.now c.args.seat c.index_mut-place.result.now c.one_more-place.result c.requires c.index_mut-place.ensures.value c.one_more-place.ensures
