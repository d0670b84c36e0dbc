use Rattle.std.proofs.Common.{refl, ◌∙◌}
use Rattle.mail_conf.specs.ConfView.{conf_text}
use Rattle.session_threads.specs.Kept.{whereabouts}
use Rattle.session_threads.proofs.Places.{again_set, seen_at, seen_set, still_within}
use Rattle.session_threads.proofs.Promising.{kept_set, over}
use Rattle.session_threads.proofs.slots.Slots.end.Goals as goal

pub join-report-requires : goal.join-report-requires
join-report-requires g c = (c.self.invariant.each c.args.seat _ c.in-Runs.ensures.was).promised

pub replaced-requires-in-Runs : goal.replaced-requires-in-Runs
replaced-requires-in-Runs g c = still_within c.self.inside.slots.items c.replaced.new.items.items c.args.seat _ _ c.in-Runs.ensures.was c.in-Runs.ensures.is

pub invariant_of-self : goal.invariant_of-self
invariant_of-self g c =
    let runs = c.self.invariant.each c.args.seat _ c.in-Runs.ensures.was in
    let held = c.join-report.ensures in
    let is = again_set c.self.inside.slots.items c.replaced.new.items.items c.replaced-in-Runs.new.items.items c.args.seat _ _ c.in-Runs.ensures.is c.replaced-in-Runs.ensures.is in
    kept_set g.L.Line.state g.V.Roams.sight g.G.GateName.table c.self.inside.slots.items _ _ _ c.args.seat _ c.self.invariant is (record { home = held.home; seat_is = held.seat ∙ runs.seat_is })

pub returns-clause-over : goal.returns-clause-over
returns-clause-over g c =
    let v = whereabouts g.L.Line.state in
    let runs = c.self.invariant.each c.args.seat _ c.in-Runs.ensures.was in
    let is = again_set c.self.inside.slots.items c.replaced.new.items.items c.replaced-in-Runs.new.items.items c.args.seat _ _ c.in-Runs.ensures.is c.replaced-in-Runs.ensures.is in
    over g.L.Line.state g.V.Roams.sight g.G.GateName.table (conf_text c.in-Runs.running.was.conf.value) c.in-Runs.running.was.begun.value c.join-report.result _ c.args.seat c.args.self.now _
    c.join-report.ensures runs.seat_is runs.place refl refl
    (seen_at v c.self.inside.slots.items c.args.self.now c.args.seat _ c.self.view_is c.in-Runs.ensures.was)
    (seen_set v c.self.inside.slots.items c.replaced-in-Runs.new.items.items c.args.self.now c.args.seat _ c.self.view_is is)
