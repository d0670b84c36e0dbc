use Rattle.std.proofs.Common.{rules, ◌∷◌, Some, sym, ap, ◌∙◌, refl}
use mathlib.Core.Option.{none}
use Rattle.atomic_table.specs.Table.{rest, step}
use Rattle.turn_gate.specs.declared.view.Counted.{Counted}
use Rattle.turn_gate.specs.Views.{after_spent}
use Rattle.turn_gate.proofs.Visits.{finds_spent, releases}
use Rattle.turn_gate.proofs.gate.Gate.put_back.Goals as goal

pub swap-requires : goal.swap-requires
swap-requires g c = let h = c.requires.held in
    (search rules, search rules, finds_spent g.T.Grows.state _ _ _ _ _ _ (step 0 0 0 0 none) _ c.args.self.now.sized.1 h.0 h.1 refl h.2)

pub swap-requires-2 : goal.swap-requires-2
swap-requires-2 g c =
    let h = c.requires.held in
    let v = c.args.pass.now.token.me.0 in
    let x : Counted g.row.T.Denot = record { value = c.args.value; count = 18446744073709551615 } in
    let out = c.exchange.ensures.3 ∙ (ap (λ m. (m.0, (0, Some x) ∷ rest m.1)) c.swap.ensures.2 ∙ ap (λ l. (after_spent v, (0, Some x) ∷ rest l)) h.3) in
    (search rules, search rules, releases g.T.Grows.state _ _ _ _ _ _ (after_spent v) x (step 0 0 0 0 none) c.args.self.now.sized.1 out h.0 h.1 c.requires.same (sym h.2))
