use Rattle.session_threads.specs.Kept.{whereabouts}
use Rattle.session_threads.proofs.Places.{seen_at, seen_set}
use Rattle.session_threads.proofs.Promising.{kept_set}
use Rattle.session_threads.proofs.slots.Slots.lend.Goals as goal

pub invariant_of-self : goal.invariant_of-self
invariant_of-self g c = kept_set g.L.Line.state g.V.Roams.sight g.G.GateName.table c.self.inside.slots.items _ _ _ c.args.seat _ c.self.invariant c.replaced.ensures.is tt

pub returns-clause-some : goal.returns-clause-some
returns-clause-some g c =
    let kept = c.self.invariant.each c.args.seat _ c.in-Idle.ensures.was in
    record {
      at_home = kept;
      was = seen_at (whereabouts g.L.Line.state) c.self.inside.slots.items c.args.self.now c.args.seat _ c.self.view_is c.in-Idle.ensures.was;
      is = seen_set (whereabouts g.L.Line.state) c.self.inside.slots.items c.replaced.new.items.items c.args.self.now c.args.seat _ c.self.view_is c.in-Idle.ensures.is;
    }
