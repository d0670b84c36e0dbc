use Rattle.std.proofs.Common.{slice_set, sym, ap, ◌∙◌}
use Rattle.mail_conf.specs.ConfView.{conf_text}
use Rattle.turn_gate.specs.Passes.{view}
use Rattle.session_threads.specs.Held.{begun_so}
use Rattle.session_threads.specs.Kept.{whereabouts}
use Rattle.session_threads.specs.Slots.{Is_with}
use Rattle.session_threads.proofs.Places.{is_within, seen_set}
use Rattle.session_threads.proofs.Promising.{kept_set, promised}
use Rattle.session_threads.proofs.slots.Slots.begin.Goals as goal

pub replaced-requires : goal.replaced-requires
replaced-requires g c = is_within (whereabouts g.L.Line.state) c.self.inside.slots.items c.args.self.now c.seat-seat.result (view c.args.begun.pass).seat _ c.self.view_is c.requires.out c.seat-seat.ensures

pub invariant_of-self : goal.invariant_of-self
invariant_of-self g c =
    let was = c.new-was.ensures in
    kept_set g.L.Line.state g.V.Roams.sight g.G.GateName.table c.self.inside.slots.items _ _ _ c.seat-seat.result _ c.self.invariant c.replaced.ensures.is
    (record {
      seat_is = ap (λ b. (view b.pass).seat) was.begun ∙ sym c.seat-seat.ensures;
      place = sym (ap (λ b. b.place) was.begun);
      promised = promised g.L.Line.state g.V.Roams.sight g.G.GateName.table (λ handle. handle.promise) c.new-was.result c.args.begun c.args.shared.now.conf.value c.start-thread.result was.begun (was.conf ∙ c.deref.ensures) c.start-thread.ensures.thread c.start-thread.ensures.here;
    })

pub returns : goal.returns
returns g c =
    let was = c.new-was.ensures in
    let seat = (view c.args.begun.pass).seat in
    seen_set (whereabouts g.L.Line.state) c.self.inside.slots.items c.replaced.new.items.items c.args.self.now c.seat-seat.result _ c.self.view_is c.replaced.ensures.is
    ∙ (ap (λ k. slice_set c.args.self.now k (Is_with (begun_so g.L.Line.state (conf_text c.new-was.result.conf.value) c.new-was.result.begun.value))) c.seat-seat.ensures
    ∙ (ap (λ b. slice_set c.args.self.now seat (Is_with (begun_so g.L.Line.state (conf_text c.new-was.result.conf.value) b))) was.begun
    ∙ ap (λ conf. slice_set c.args.self.now seat (Is_with (begun_so g.L.Line.state (conf_text conf) c.args.begun))) (was.conf ∙ c.deref.ensures)))
