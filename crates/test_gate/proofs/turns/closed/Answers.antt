use Rattle.turn_gate.proofs.Orders.{in_order}
use Rattle.test_gate.proofs.turns.closed.Goals as goal

pub close-requires : goal.close-requires
close-requires g = record { all = in_order _ _ g.requires }
