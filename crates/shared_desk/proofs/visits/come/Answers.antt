use Rattle.std.proofs.Common.{ℕ, sym, ◌∙◌, ap, subst}
use Rattle.turn_gate.specs.Passes.{view}
use Rattle.shared_desk.specs.Seen.{Found, SeatTurn}
use Rattle.shared_desk.proofs.Calling.{part_found}
use Rattle.shared_desk.proofs.Paths.{by_map}
use Rattle.shared_desk.proofs.Sharing.{found}
use Rattle.shared_desk.proofs.visits.come.Goals as goal

pub sit-requires : goal.sit-requires
sit-requires g c =
    let s = g.V.Roams.sight in
    let f = found s g.met.V.Roams.one_hub (view c.args.pass.now).seat (view c.args.pass.now).left (g.V.Grows.state c.enter-held.result.value) (by_map g.V.Grows.turn (SeatTurn s) g.met.V.Roams.turn_is _ _ _ c.enter-held.ensures.reached) in
    subst (λ (k : ℕ). s.ready k (g.V.Grows.state c.enter-held.result.value)) (sym (c.seat.ensures ∙ ap (λ v. v.seat) c.enter-held.ensures.held.1)) (f.ready c.requires.ready)

pub returns-clause-found : goal.returns-clause-found
returns-clause-found g c =
    let s = g.V.Roams.sight in
    let f = found s g.met.V.Roams.one_hub (view c.args.pass.now).seat (view c.args.pass.now).left (g.V.Grows.state c.enter-held.result.value) (by_map g.V.Grows.turn (SeatTurn s) g.met.V.Roams.turn_is _ _ _ c.enter-held.ensures.reached) in
    subst (λ x. Found s (view c.args.pass.now).seat (view c.args.pass.now).left x) (sym c.sit.ensures.state) f

pub returns-clause-part : goal.returns-clause-part
returns-clause-part g c =
    let s = g.V.Roams.sight in
    let v = c.sit.new.self in
    let k = (view c.args.pass.now).seat in
    let left = (view c.args.pass.now).left in
    let f = found s g.met.V.Roams.one_hub k left (g.V.Grows.state c.enter-held.result.value) (by_map g.V.Grows.turn (SeatTurn s) g.met.V.Roams.turn_is _ _ _ c.enter-held.ensures.reached) in
    part_found s (g.V.Roams.at v) k left (g.V.Grows.state v) (g.V.Desk.stand v) (g.V.Desk.part v) (g.met.V.Roams.sits v c.sit.ensures.ready) (c.sit.ensures.at ∙ (c.seat.ensures ∙ ap (λ v. v.seat) c.enter-held.ensures.held.1)) (subst (λ x. Found s k left x) (sym c.sit.ensures.state) f)
