use Rattle.std.proofs.Common.{rules, ◌≡◌, [], ◌∷◌, sym, refl, subst, Some}
use Rattle.atomic_table.specs.Table.{opening}
use Rattle.turn_gate.specs.Rule.{IsKept}
use Rattle.turn_gate.specs.Views.{keeper_view}
use Rattle.turn_gate.proofs.SeatsKept.{opens}
use Rattle.turn_gate.proofs.gate.Gate.new.Goals as goal

pub new-requires : goal.new-requires
new-requires g c =
    let is : c.push_reserved.new.self.items ≡ Some record { value = c.args.value; count = 0 } ∷ [] = search rules in
    let first = g.T.Grows.state c.of.result.value in
    subst (λ xs. IsKept g.T.Grows.state g.T.Grows.turn first c.args.seats (opening (0 ∷ 0 ∷ []) xs (keeper_view first 0 []))) (sym is)
    (opens g.T.Grows.state _ _ _ record { value = c.args.value; count = 0 } (search rules) refl)
