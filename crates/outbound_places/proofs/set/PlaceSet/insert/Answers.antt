use Rattle.outbound_places.proofs.Sets.{inserted}
use Rattle.outbound_places.proofs.set.PlaceSet.insert.Goals as goal

pub returns : goal.returns
returns c = inserted c.args.self.now.places c.insert.new.self c.args.place c.in_ok-insert.ensures.updates.0
