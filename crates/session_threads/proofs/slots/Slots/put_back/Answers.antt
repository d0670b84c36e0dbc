use Rattle.std.proofs.Common.{slice_set, sym, ap, ◌∙◌}
use Rattle.turn_gate.specs.Passes.{view}
use Rattle.session_threads.specs.Kept.{whereabouts}
use Rattle.session_threads.specs.Slots.{Rests_here}
use Rattle.session_threads.proofs.Places.{seen_set}
use Rattle.session_threads.proofs.Promising.{kept_set}
use Rattle.session_threads.proofs.slots.Slots.put_back.Goals as goal

pub invariant_of-self : goal.invariant_of-self
invariant_of-self g c =
    kept_set g.L.Line.state g.V.Roams.sight g.G.GateName.table c.self.inside.slots.items _ _ _ c.seat-seat.result _ c.self.invariant c.replaced.ensures.is (record { home = c.requires.home; seat_is = sym c.seat-seat.ensures })

pub returns : goal.returns
returns g c =
    seen_set (whereabouts g.L.Line.state) c.self.inside.slots.items c.replaced.new.items.items c.args.self.now c.seat-seat.result _ c.self.view_is c.replaced.ensures.is
    ∙ ap (λ k. slice_set c.args.self.now k (Rests_here (view c.args.pass).left)) c.seat-seat.ensures
