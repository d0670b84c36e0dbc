use Rattle.std.proofs.Common.{rules, ◌≡◌, ◌+◌, None, Some, length, slice_get, vec_len, arith, refl, ap, subst}
use Rattle.std.proofs.lemmas.List.{length-map}
use Rattle.session_threads.specs.Kept.{SlotKeeps, whereabouts}
use Rattle.session_threads.specs.Lent.{IsPassHere}
use Rattle.session_threads.proofs.Places.{first_comes, one_more, rest_comes, seen_at}
use Rattle.session_threads.proofs.Promising.{here_alone, pass_here}
use Rattle.session_threads.proofs.closing.take_home.Goals as goal

pub loop-slot-init : goal.loop-slot-init
loop-slot-init g c =
    let inside = c.slots.inside in
    let none : vec_len inside.home ≡ 0 = let e = c.slots.invariant.none in search rules in
    let v = whereabouts g.L.Line.state in
    let all = length-map inside.slots.items v in
    let seen = ap length c.slots.view_is in
    let gives = c.into_iter-slot-iterator.ensures.into_iter_gives.0 in
    record {
      all = omega (arith, none, all, seen, ap length gives);
      fits = omega (arith, all, seen, c.slots.invariant.fits);
      rest = λ k slot at.
          let first : k ≡ vec_len inside.home + k = omega (arith, none) in
          let there : slice_get inside.slots.items k ≡ Some slot = rw gives at at in
          subst (λ i. SlotKeeps g.L.Line.state g.V.Roams.sight g.G.GateName.table i slot × (slice_get c.args.slots i ≡ Some (v slot))) first
          (c.slots.invariant.each k slot there, seen_at v inside.slots.items c.args.slots k slot c.slots.view_is there);
      passes = λ k p at. absurd (let no : None ≡ Some p = rw c.slots.invariant.none at at in cc);
    }

pub loop-slot-preserved : goal.loop-slot-preserved
loop-slot-preserved g c =
    let s = g.V.Roams.sight in
    let v = whereabouts g.L.Line.state in
    let i = c.loop-slot.invariant in
    let steps = c.in-Some.ensures.steps in
    let pushed = c.push_reserved.ensures in
    let old = c.loop-slot.home in
    let here = first_comes (λ k slot. SlotKeeps g.L.Line.state s g.G.GateName.table k slot × (slice_get c.args.slots k ≡ Some (v slot))) (vec_len old) c.loop-slot.slot-iterator.rest.items c.next.new.self.rest.items c.in-Some.slot steps.0 i.rest in
    record {
      all = omega (arith, i.all, pushed.len, ap length steps.0);
      fits = omega (arith, i.fits, pushed.capacity);
      rest = rest_comes (λ k slot. SlotKeeps g.L.Line.state s g.G.GateName.table k slot × (slice_get c.args.slots k ≡ Some (v slot))) (vec_len old) (vec_len c.push_reserved.new.self) c.loop-slot.slot-iterator.rest.items c.next.new.self.rest.items c.in-Some.slot steps.0 pushed.len i.rest;
      passes = one_more (IsPassHere s g.G.GateName.table c.args.slots) (vec_len old) old.items c.push_reserved.new.self.items c.in-Idle.pass pushed.items (search rules) i.passes
          (pass_here g.L.Line.state s g.G.GateName.table (vec_len old) c.in-Some.slot c.in-Idle.pass c.args.slots c.in-Idle.is here.0 here.1);
    }

pub unreachable-requires : goal.unreachable-requires
unreachable-requires g c =
    let v = whereabouts g.L.Line.state in
    let here = first_comes (λ k slot. slice_get c.args.slots k ≡ Some (v slot)) (vec_len c.loop-slot.home) c.loop-slot.slot-iterator.rest.items c.next.new.self.rest.items c.in-Some.slot c.in-Some.ensures.steps.0 (λ k slot at. (c.loop-slot.invariant.rest k slot at).1) in
    let all = c.requires (vec_len c.loop-slot.home) (v c.in-Some.slot) here in
    here_alone g.L.Line.state c.in-Some.slot (v c.in-Some.slot) all.0 refl all.1 c.in-Lent.is
