use Rattle.shared_desk.proofs.OwnRows.{turn_logs}
use Rattle.shared_desk.proofs.laws.records_of_a_turn_are_its_seats.Goals as goal

pub returns : goal.returns
returns g c = λ k a b turn. turn_logs g.V.Roams.sight k a b turn
