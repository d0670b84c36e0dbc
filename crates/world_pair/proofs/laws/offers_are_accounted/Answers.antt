use Rattle.world_pair.proofs.Parts.{offers_are_accounted}
use Rattle.world_pair.proofs.laws.offers_are_accounted.Goals as goal

pub returns : goal.returns
returns c = offers_are_accounted
