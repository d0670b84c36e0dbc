use Rattle.std.proofs.Common.{arith}
use Rattle.turn_gate.proofs.Removed.{found}
use Rattle.turn_gate.proofs.seats.first_of.Goals as goal

pub unreachable-requires : goal.unreachable-requires
unreachable-requires g c =
    let all = c.loop-at-test.false in
    found (λ p. p.token.me.0.seat) c.args.passes.now 0 c.requires.0 c.requires.1 c.requires.2 (λ k d l. c.loop-at.invariant.1 k d (omega (arith, all, l)))
