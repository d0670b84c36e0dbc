use Rattle.std.proofs.Common.{◌≡◌, ◌<◌, ℕ, ◌∷◌, [], Option, Some, None, length, sym, ◌∙◌, ap, subst}
use Rattle.node_model.specs.Calls.{Got_call, Settled, Refused, Fault}
use Rattle.node_model.specs.Desks.{Claim, number_in}
use Rattle.node_model.specs.Stores.{IsLive, settled}
use Rattle.hub_core.specs.Hubs.{HubState, Sitting, hub_state, sitting_of, with_sitting, sitting_at}
use Rattle.hub_core.specs.HubCalls.{Does}
use Rattle.hub_core.specs.Sending.{claim_number}
use Rattle.hub_core.specs.Steps.{Leaves, OneOf, BrokeBy, loses_none, fault_in}
use Rattle.hub_core.proofs.GotSteps.{got_does, got_refused, place_now, number_now}
use Rattle.hub_core.proofs.ReadSteps.{part_claims, live_now}
use Rattle.hub_core.proofs.Sittings.{given_still}
use Rattle.hub_core.specs.Indices.{ClaimsOf}
use Rattle.hub_core.proofs.Claiming.{settled_finds}
use Rattle.hub_core.proofs.Sittings.{sit_twice}
use Rattle.hub_core.specs.Holders.{HoldsOf}
use Rattle.hub_core.proofs.HoldSteps.{alike_holds, settled_same}
use Rattle.hub_core.proofs.hub.Hub.got_now.Goals as goal

pub settle_claim-settled-requires-clause-live : goal.settle_claim-settled-requires-clause-live
settle_claim-settled-requires-clause-live g c =
    let v = g.S.Store.stand c.args.self.now.store in
    let h = hub_state c.args.self.now.seats in
    let x = sitting_of c.in-Some.session in
    let sits : sitting_at h c.args.seat ≡ Some x = sym c.in-Some.ensures.session in
    let claimed : x.claim ≡ Some c.requires.claimed.claim = sym (part_claims h c.args.seat x sits) ∙ c.requires.claimed.is in
    subst (λ (o : Option Claim). IsLive (claim_number o) v.state) (sym claimed) (live_now v h c.args.seat c.requires.claimed c.requires.turn)

pub settle_claim-settled-requires-clause-place : goal.settle_claim-settled-requires-clause-place
settle_claim-settled-requires-clause-place g c =
    let v = g.S.Store.stand c.args.self.now.store in
    let h = hub_state c.args.self.now.seats in
    let x = sitting_of c.in-Some.session in
    let sits : sitting_at h c.args.seat ≡ Some x = sym c.in-Some.ensures.session in
    place_now v h c.args.seat x c.requires.claimed.claim c.requires.turn sits (sym (part_claims h c.args.seat x sits) ∙ c.requires.claimed.is)

pub settle_claim-settled-requires-clause-number : goal.settle_claim-settled-requires-clause-number
settle_claim-settled-requires-clause-number g c =
    number_now (g.S.Store.stand c.args.self.now.store) (hub_state c.args.self.now.seats) c.args.seat (sitting_of c.in-Some.session) c.requires.turn (sym c.in-Some.ensures.session)

pub put_session-requires : goal.put_session-requires
put_session-requires g c =
    let h = hub_state c.args.self.now.seats in
    subst (λ (k : HubState). c.args.seat < length k.chairs) (sym c.take_session.ensures.after) (given_still h c.args.seat None c.requires.turn.ready.given)

pub returns-in-Ok : goal.returns-in-Ok
returns-in-Ok g c =
    let v = g.S.Store.stand c.args.self.now.store in
    let w = g.S.Store.stand c.settle_claim-settled.new.store in
    let h = hub_state c.args.self.now.seats in
    let k = hub_state c.put_session.new.self in
    let x = sitting_of c.in-Some.session in
    let y = sitting_of c.settle_claim-settled.new.session in
    let claim = c.requires.claimed.claim in
    let sits : sitting_at h c.args.seat ≡ Some x = sym c.in-Some.ensures.session in
    let claimed : x.claim ≡ Some claim = sym (part_claims h c.args.seat x sits) ∙ c.requires.claimed.is in
    let after = c.in-Ok.ensures.ok ∙ ap (λ (o : Option Claim). settled (claim_number o) x.number v.state) claimed in
    let leaves = subst (λ (o : Option Claim). Leaves (OneOf (v.state.content ∷ (settled (claim_number o) x.number v.state).content ∷ [])) v w) claimed c.settle_claim-settled.ensures.leaves in
    subst (λ (n : ℕ). Does v h c.args.seat (Got_call n) Settled w k) (sym (ap number_in c.requires.claimed.is))
    (got_does v w h k c.args.seat x y claim c.requires.turn sits claimed (c.put_session.ensures ∙ ap (with_sitting c.args.seat (Some y)) c.take_session.ensures.after) c.in-Ok.ensures.unclaimed after leaves c.settle_claim-settled.ensures.settled)

pub returns-in-Err : goal.returns-in-Err
returns-in-Err g c =
    let v = g.S.Store.stand c.args.self.now.store in
    let w = g.S.Store.stand c.settle_claim-settled.new.store in
    let h = hub_state c.args.self.now.seats in
    let k = hub_state c.put_session.new.self in
    let x = sitting_of c.in-Some.session in
    let y = sitting_of c.settle_claim-settled.new.session in
    let claim = c.requires.claimed.claim in
    let sits : sitting_at h c.args.seat ≡ Some x = sym c.in-Some.ensures.session in
    let claimed : x.claim ≡ Some claim = sym (part_claims h c.args.seat x sits) ∙ c.requires.claimed.is in
    let broke = subst (λ (o : Option Claim). BrokeBy (OneOf (v.state.content ∷ (settled (claim_number o) x.number v.state).content ∷ [])) loses_none c.in-Err.fault v.state w.state) claimed c.in-Err.ensures.err in
    let leaves = subst (λ (o : Option Claim). Leaves (OneOf (v.state.content ∷ (settled (claim_number o) x.number v.state).content ∷ [])) v w) claimed c.settle_claim-settled.ensures.leaves in
    subst (λ (f : Fault). Does v h c.args.seat (Got_call (number_in (Rattle.hub_core.specs.Hubs.seat_part h c.args.seat).claim)) (Refused f) w k) (sym c.refusal.ensures)
    (subst (λ (n : ℕ). Does v h c.args.seat (Got_call n) (Refused (fault_in c.in-Err.fault w.state.counts.faults)) w k) (sym (ap number_in c.requires.claimed.is))
    (got_refused v w h k c.args.seat x y claim c.in-Err.fault c.requires.turn sits claimed (c.put_session.ensures ∙ ap (with_sitting c.args.seat (Some y)) c.take_session.ensures.after) c.in-Err.ensures.kept broke leaves))

pub invariant_of-self : goal.invariant_of-self
invariant_of-self g c =
    let h = hub_state c.args.self.now.seats in
    let x = sitting_of c.in-Some.session in
    let y = sitting_of c.settle_claim-settled.new.session in
    let new = c.settle_claim-settled.new.claims in
    let settled = c.settle_claim-settled.ensures in
    let put = c.put_session.ensures ∙ (ap (with_sitting c.args.seat (Some y)) c.take_session.ensures.after ∙ sit_twice h c.args.seat (Some y) None) in
    let same = settled_same c.settle_claim-settled.result x y settled.unclaimed settled.kept in
    record {
      claimed = subst (λ (k : HubState). ClaimsOf new k.chairs) (sym put)
          (settled_finds c.settle_claim-settled.result c.args.self.now.claims new h c.args.seat x y c.args.self.now.claimed (sym c.in-Some.ensures.session) settled.unclaimed settled.removed settled.kept settled.unremoved);
      held = subst (λ (k : HubState). HoldsOf c.args.self.now.holds k.chairs) (sym put) (alike_holds c.args.self.now.holds h c.args.seat x y c.args.self.now.held (sym c.in-Some.ensures.session) same.0 same.1);
    }
