use Rattle.std.proofs.Common.{rules, ◌≡◌, ◌+◌, None, Some, length, slice_index_or, vec_len, arith, refl, ap, subst}
use Rattle.turn_gate.specs.Passes.{opening, view}
use Rattle.session_threads.specs.Held.{IsHomeAt}
use Rattle.session_threads.specs.Kept.{SlotKeeps, whereabouts}
use Rattle.session_threads.specs.Slots.{Rests_here}
use Rattle.session_threads.proofs.Places.{first_comes, one_more, read_at, rest_comes, seen_more}
use Rattle.session_threads.proofs.Seats.{new_home}
use Rattle.session_threads.proofs.slots.Slots.new.Goals as goal

pub loop-pass-init : goal.loop-pass-init
loop-pass-init g c =
    let s = g.V.Roams.sight in
    let x = opening g.V.Grows.state c.args.gate.now in
    let slots = c.in-Ok.ensures in
    let passes = c.args.passes.items in
    record {
      all = search rules;
      fits = search rules;
      room = search rules;
      none = search rules;
      rest = λ k p at.
          let first : k ≡ vec_len c.in-Ok.slots + k = omega (arith, slots.len) in
          subst (λ i. IsHomeAt s g.G.GateName.table i p × ((view p).left ≡ x)) first
          (read_at (λ i q. IsHomeAt s g.G.GateName.table i q × ((view q).left ≡ x)) (vec_len c.args.passes) passes (search rules)
          (λ i d l. new_home s g.G.GateName.table c.args.gate.now i (slice_index_or passes i d) c.requires.named (c.requires.new i d l) (c.requires.ready i l)) k p (rw (← c.into_iter-pass-iterator.ensures.into_iter_gives.0) at));
      keeps = λ k slot at. absurd (let none : None ≡ Some slot = rw slots.items at at in cc);
      seen = rw (slots.items, slots.len) refl;
    }

pub loop-pass-preserved : goal.loop-pass-preserved
loop-pass-preserved g c =
    let s = g.V.Roams.sight in
    let x = opening g.V.Grows.state c.args.gate.now in
    let v = whereabouts g.L.Line.state in
    let i = c.loop-pass.invariant in
    let steps = c.in-Some.ensures.steps in
    let pushed = c.push_reserved.ensures in
    let old = c.loop-pass.slots in
    let here = first_comes (λ k p. IsHomeAt s g.G.GateName.table k p × ((view p).left ≡ x)) (vec_len old) c.loop-pass.pass-iterator.rest.items c.next.new.self.rest.items c.in-Some.pass steps.0 i.rest in
    record {
      all = omega (arith, i.all, pushed.len, ap length steps.0);
      fits = omega (arith, i.fits, pushed.capacity);
      room = i.room;
      none = i.none;
      rest = rest_comes (λ k p. IsHomeAt s g.G.GateName.table k p × ((view p).left ≡ x)) (vec_len old) (vec_len c.push_reserved.new.self) c.loop-pass.pass-iterator.rest.items c.next.new.self.rest.items c.in-Some.pass steps.0 pushed.len i.rest;
      keeps = one_more (SlotKeeps g.L.Line.state s g.G.GateName.table) (vec_len old) old.items c.push_reserved.new.self.items _ pushed.items (search rules) i.keeps here.0;
      seen = seen_more v old.items c.push_reserved.new.self.items (vec_len old) (vec_len c.push_reserved.new.self) _ (Rests_here x) i.seen pushed.items pushed.len (ap Rests_here here.1);
    }
