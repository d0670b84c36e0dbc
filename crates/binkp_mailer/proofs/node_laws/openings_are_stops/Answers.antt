use Rattle.binkp_mailer.proofs.NodeOpenings.{openings_are_stops}
use Rattle.binkp_mailer.proofs.node_laws.openings_are_stops.Goals as goal

pub returns : goal.returns
returns c = openings_are_stops
