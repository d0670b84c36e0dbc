use Rattle.std.proofs.Common.{rules, ap, ◌∙◌, refl}
use Rattle.turn_gate.specs.Seats.{IsIdleAt}
use Rattle.turn_gate.specs.Views.{joined_of}
use Rattle.turn_gate.proofs.SeatsKept.{takes_in}
use Rattle.turn_gate.proofs.Taken.{taken_in, all_rest, first_in, all_taken, starts, zero_empty}
use Rattle.turn_gate.proofs.seats.take_in.Goals as goal

pub loop-pass-init : goal.loop-pass-init
loop-pass-init g c =
    let s = starts (λ p. joined_of p.token.me.0) _ c.into_iter-pass-iterator.result.rest.items c.args.passes.items (search rules) in
    (refl, refl, c.requires.table.2, s, search rules)

pub join_seat-requires : goal.join_seat-requires
join_seat-requires g c =
    let q = c.in-Some.ensures.steps in
    let i = c.loop-pass.invariant in
    let f = first_in (λ p. IsIdleAt c.args.shared.now.table_id p.token.table_id p.token.me) c.in-Some.pass _ _ q.0 i.4 in
    (i.0 ∙ c.requires.table.0, f.0, f.3, c.requires.table.1, takes_in _ _ _ _ _ _ _ _ _ (ap (λ m. m.0.keeper) i.2) f.1 f.2)

pub loop-pass-preserved : goal.loop-pass-preserved
loop-pass-preserved g c =
    let q = c.in-Some.ensures.steps in
    let i = c.loop-pass.invariant in
    let j = c.join_seat.ensures in
    let t = taken_in (λ p. joined_of p.token.me.0) _ _ c.loop-pass.keeper.me c.join_seat.new.seat.me c.in-Some.pass.token.me.0 c.in-Some.pass _ _ _ i.2 j.2 refl q.0 i.3 in
    (j.0 ∙ i.0, j.1 ∙ i.1, t.0, t.1, all_rest (λ p. IsIdleAt c.args.shared.now.table_id p.token.table_id p.token.me) c.in-Some.pass _ _ q.0 i.4)

pub returns-clause-took : goal.returns-clause-took
returns-clause-took g c =
    let i = c.loop-pass.invariant in
    all_taken (λ p. joined_of p.token.me.0) _ _ c.loop-pass.keeper.me c.loop-pass.pass-iterator.rest.items _ i.2 (zero_empty _ (search rules)) i.3
