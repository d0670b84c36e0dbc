use Rattle.std.proofs.Common.{◌≡◌, [], ◌++◌, map, All}
use Rattle.turn_gate.specs.Seats.{IsIdleAt}
use Rattle.turn_gate.specs.Views.{keeper_view, joined_of}
use Rattle.turn_gate.proofs.seats.take_in.Given as goal

abbrev pub invariant-loop-pass : goal.invariant-loop-pass
invariant-loop-pass g l =
    (l.keeper.table_id ≡ l.initial.keeper.table_id) × (l.keeper.id ≡ l.initial.keeper.id)
    × (l.keeper.me ≡ (keeper_view l.initial.keeper.me.0.left l.initial.keeper.me.0.next l.keeper.me.0.joined, []))
    × (l.keeper.me.0.joined ++ map (λ p. joined_of p.token.me.0) l.pass-iterator.rest.items ≡ l.initial.keeper.me.0.joined ++ map (λ p. joined_of p.token.me.0) l.fn.passes.items)
    × All (λ p. IsIdleAt l.shared.table_id p.token.table_id p.token.me) l.pass-iterator.rest.items
