use Rattle.std.proofs.Common.{rules, ◌∷◌, Some, sym, ap, ◌∙◌}
use mathlib.Core.Option.{none}
use Rattle.atomic_table.specs.Table.{rest, step}
use Rattle.turn_gate.specs.Turns.{ByOthers}
use Rattle.turn_gate.proofs.Continued.{continued}
use Rattle.turn_gate.proofs.Visits.{acquires_as}
use Rattle.turn_gate.proofs.gate.Gate.try_enter.Goals as goal

pub compare_exchange-found-requires : goal.compare_exchange-found-requires
compare_exchange-found-requires g c =
    let f = c.requires.free in
    (search rules, search rules, acquires_as _ _ _ _ _ _ _ _ (step 0 0 0 0 none) c.args.self.now.sized.1 f.bare (search rules) f.live)

pub exchange-requires : goal.exchange-requires
exchange-requires g c = let took = c.compare_exchange-found.ensures.2.0 c.if-found-ne0.false in
    (search rules, (Some took.0, ap (λ m. m.1) took.1 ∙ (λ i. (0, Some took.0) ∷ sym (ap (λ m. rest m.1) took.1) i)))

pub returns-clause-continued : goal.returns-clause-continued
returns-clause-continued g c =
    let i = g.T.Grows in
    let v = c.args.pass.now.token.me.0 in
    let r : ByOthers i.turn v.seat v.left (i.state c.in-Some.field-0.value) = search rules in
    continued i.entries i.by i.part i.turn g.met.T.Grows.turn_is_own _ _ _ r
