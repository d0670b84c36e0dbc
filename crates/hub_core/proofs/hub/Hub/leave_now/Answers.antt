use Rattle.std.proofs.Common.{◌≡◌, ◌<◌, ℕ, Option, cond, length, Some, None, refl, sym, ◌∙◌, ap, subst}
use Rattle.node_model.specs.Calls.{Leave_call, Settled, Refused, Fault}
use Rattle.node_model.specs.Desks.{fault_of}
use Rattle.hub_core.specs.Hubs.{HubState, hub_state, sitting_of, sitting_at, with_sitting}
use Rattle.hub_core.specs.HubCalls.{Does}
use Rattle.hub_core.proofs.LeaveSteps.{leave_does, leave_broken, leave_nothing}
use Rattle.hub_core.proofs.Ready.{sits_hold, claim_reserved}
use Rattle.hub_core.proofs.Sittings.{sit_same, sit_back, given_still}
use Rattle.hub_core.proofs.Turning.{fitted_now, sits_now}
use Rattle.hub_core.specs.Indices.{ClaimsOf, claimer, is_just}
use Rattle.hub_core.proofs.Claiming.{removed_finds}
use Rattle.hub_core.specs.Holders.{HoldsOf}
use Rattle.hub_core.proofs.HoldSteps.{released_holds}
use Rattle.hub_core.proofs.hub.Hub.leave_now.Goals as goal

pub put_session-requires : goal.put_session-requires
put_session-requires g c =
    let h = hub_state c.args.self.now.seats in
    subst (λ (k : HubState). c.args.seat < length k.chairs) (sym c.take_session.ensures.after) (given_still h c.args.seat None c.requires.ready.given)

pub returns-in_default : goal.returns-in_default
returns-in_default g c =
    let v = g.S.Store.stand c.args.self.now.store in
    let h = hub_state c.args.self.now.seats in
    let none : sitting_at h c.args.seat ≡ None = sym c.in_default.ensures.session in
    subst (λ (k : HubState). Does v h c.args.seat Leave_call Settled v k) (sym (c.take_session.ensures.after ∙ sit_same h c.args.seat None c.requires.ready.given (sym none))) (leave_nothing v h c.args.seat c.requires none)

pub end_session-requires-clause-holds : goal.end_session-requires-clause-holds
end_session-requires-clause-holds g c =
    let v = g.S.Store.stand c.args.self.now.store in
    let h = hub_state c.args.self.now.seats in
    let f = fitted_now v h c.args.seat c.requires in
    sits_hold f.keeps v.state h c.args.seat (sitting_of c.in-Some.session) f.fits (sym c.in-Some.ensures.session)

pub end_session-requires-clause-places : goal.end_session-requires-clause-places
end_session-requires-clause-places g c =
    let v = g.S.Store.stand c.args.self.now.store in
    let h = hub_state c.args.self.now.seats in
    let x = sitting_of c.in-Some.session in
    claim_reserved (fitted_now v h c.args.seat c.requires).keeps v.state h c.args.seat x (sits_now v h c.args.seat x c.requires (g.met.S.Store.tied c.args.self.now.store) (sym c.in-Some.ensures.session))

pub returns-in-Ok : goal.returns-in-Ok
returns-in-Ok g c =
    let v = g.S.Store.stand c.args.self.now.store in
    let w = g.S.Store.stand c.end_session.new.store in
    let h = hub_state c.args.self.now.seats in
    let x = sitting_of c.in-Some.session in
    subst (λ (k : HubState). Does v h c.args.seat Leave_call Settled w k) (sym c.take_session.ensures.after)
    (leave_does v w h c.args.seat x c.requires (g.met.S.Store.tied c.args.self.now.store) (sym c.in-Some.ensures.session) c.in-Ok.ensures.ok c.end_session.ensures.leaves c.end_session.ensures.settled)

pub returns-in-Err : goal.returns-in-Err
returns-in-Err g c =
    let v = g.S.Store.stand c.args.self.now.store in
    let w = g.S.Store.stand c.end_session.new.store in
    let h = hub_state c.args.self.now.seats in
    let x = sitting_of c.in-Some.session in
    let put = c.put_session.ensures ∙ (ap (with_sitting c.args.seat (Some x)) c.take_session.ensures.after ∙ sit_back h c.args.seat (Some x) c.requires.ready.given c.in-Some.ensures.session) in
    subst (λ (k : HubState). Does v h c.args.seat Leave_call (Refused (fault_of c.refusal.result)) w k) (sym put)
    (subst (λ (f : Fault). Does v h c.args.seat Leave_call (Refused f) w h) (sym c.refusal.ensures)
    (leave_broken v w h c.args.seat x c.in-Err.fault c.requires (g.met.S.Store.tied c.args.self.now.store) (sym c.in-Some.ensures.session) c.in-Err.ensures.err c.end_session.ensures.leaves))

pub invariant_of-self : goal.invariant_of-self
invariant_of-self g c =
    let h = hub_state c.args.self.now.seats in
    let none : sitting_at h c.args.seat ≡ None = sym c.in_default.ensures.session in
    record { claimed = subst (λ (k : HubState). ClaimsOf c.args.self.now.claims k.chairs) (sym (c.take_session.ensures.after ∙ sit_same h c.args.seat None c.requires.ready.given (sym none))) c.args.self.now.claimed; held = subst (λ (k : HubState). HoldsOf c.args.self.now.holds k.chairs) (sym (c.take_session.ensures.after ∙ sit_same h c.args.seat None c.requires.ready.given (sym none))) c.args.self.now.held }

pub invariant_of-self-in-Ok : goal.invariant_of-self-in-Ok
invariant_of-self-in-Ok g c =
    let h = hub_state c.args.self.now.seats in
    let x = sitting_of c.in-Some.session in
    let did = λ (n : ℕ). c.remove.ensures n ∙ ap (λ (o : Option ℕ). cond (is_just n o) None (claimer c.args.self.now.claims n)) c.claimed.ensures in
    record {
      claimed = subst (λ (k : HubState). ClaimsOf c.remove.new.self k.chairs) (sym c.take_session.ensures.after)
          (removed_finds c.args.self.now.claims c.remove.new.self h c.args.seat x None c.args.self.now.claimed (sym c.in-Some.ensures.session) did (λ n. refl));
      held = subst (λ (k : HubState). HoldsOf c.release.new.self k.chairs) (sym c.take_session.ensures.after) (released_holds c.args.self.now.holds c.release.new.self h c.args.seat x None c.args.self.now.held (sym c.in-Some.ensures.session) c.release.ensures (λ a k. refl));
    }

pub invariant_of-self-in-Err : goal.invariant_of-self-in-Err
invariant_of-self-in-Err g c =
    let h = hub_state c.args.self.now.seats in
    let x = sitting_of c.in-Some.session in
    let put = c.put_session.ensures ∙ (ap (with_sitting c.args.seat (Some x)) c.take_session.ensures.after ∙ sit_back h c.args.seat (Some x) c.requires.ready.given c.in-Some.ensures.session) in
    record { claimed = subst (λ (k : HubState). ClaimsOf c.args.self.now.claims k.chairs) (sym put) c.args.self.now.claimed; held = subst (λ (k : HubState). HoldsOf c.args.self.now.holds k.chairs) (sym put) c.args.self.now.held }
