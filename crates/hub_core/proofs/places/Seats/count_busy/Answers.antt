use Rattle.hub_core.proofs.Sittings.{seats_busier}
use Rattle.hub_core.proofs.places.Seats.count_busy.Goals as goal

pub returns : goal.returns
returns c =
    seats_busier c.args.self.now c.args.seat c.index_mut-place.result.now c.one_more-place.result c.requires c.index_mut-place.ensures.value c.one_more-place.ensures
