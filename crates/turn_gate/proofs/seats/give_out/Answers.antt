use Rattle.std.proofs.Common.{rules, ap}
use Rattle.turn_gate.proofs.SeatsKept.{gives_out}
use Rattle.turn_gate.proofs.seats.give_out.Goals as goal

pub split_seat-first-requires : goal.split_seat-first-requires
split_seat-first-requires g c = let k = c.requires.table.2 in
    (search rules, search rules, gives_out g.T.Grows.state _ _ _ _ _ (ap (λ m. m.0.keeper) k) (ap (λ m. m.0.joined) k) (search rules))

pub split_seat-token-requires : goal.split_seat-token-requires
split_seat-token-requires g c = let k = c.loop-seat.invariant.1 in
    (search rules, search rules, gives_out g.T.Grows.state _ _ _ _ _ (ap (λ m. m.0.keeper) k) (ap (λ m. m.0.joined) k) (search rules))
