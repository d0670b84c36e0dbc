use Rattle.std.proofs.Common.{None}
use Rattle.outbound_places.proofs.Spelled.{read_place}
use Rattle.outbound_places.proofs.place.place_of.Goals as goal

pub returns-in_err-halves_of : goal.returns-in_err-halves_of
returns-in_err-halves_of c = rw c.from_residual.ensures (read_place c.args.digits.now None c.in_err-halves_of.ensures)
