use Rattle.std.proofs.Common.{◌≡◌, ◌<◌, ◌∷◌, [], Some, None, length, sym, ◌∙◌, ap, subst}
use Rattle.node_model.specs.declared.store.StoreFault.{StoreFault}
use Rattle.node_model.specs.declared.store.StoreFault.TheVariants.{Read}
use Rattle.node_model.specs.Calls.{Offer_call, Refused, Fault}
use Rattle.hub_core.specs.Hubs.{HubState, hub_state, sitting_of, with_sitting}
use Rattle.hub_core.specs.HubCalls.{Does}
use Rattle.hub_core.specs.Sending.{OffersFull}
use Rattle.hub_core.specs.Steps.{RefusedBy, OneOf, loses_none}
use Rattle.hub_core.proofs.Claiming.{out_finds}
use Rattle.hub_core.proofs.OfferSteps.{offer_does, offer_err, put_fits, offer_fits, same_fits}
use Rattle.hub_core.proofs.Sittings.{given_still}
use Rattle.hub_core.proofs.Turning.{fitted_now}
use Rattle.hub_core.specs.Indices.{ClaimsOf}
use Rattle.hub_core.proofs.Claiming.{claimed_finds}
use Rattle.hub_core.proofs.Sittings.{sit_twice}
use Rattle.hub_core.specs.Holders.{HoldsOf}
use Rattle.hub_core.proofs.HoldSteps.{alike_holds, offered_same}
use Rattle.hub_core.proofs.hub.Hub.offer_now.Goals as goal

pub put_session-requires : goal.put_session-requires
put_session-requires g c =
    let h = hub_state c.args.self.now.seats in
    subst (λ (k : HubState). c.args.seat < length k.chairs) (sym c.take_session.ensures.after) (given_still h c.args.seat None c.requires.turn.ready.given)

pub claim_next-claimed-requires-clause-passed : goal.claim_next-claimed-requires-clause-passed
claim_next-claimed-requires-clause-passed g c =
    let v = g.S.Store.stand c.args.self.now.store in
    let h = hub_state c.args.self.now.seats in
    ((fitted_now v h c.args.seat c.requires.turn).fits.sittings c.args.seat (sitting_of c.in-Some.session) (sym c.in-Some.ensures.session)).passed

pub returns-in-Ok-clause-does : goal.returns-in-Ok-clause-does
returns-in-Ok-clause-does g c =
    let v = g.S.Store.stand c.args.self.now.store in
    let w = g.S.Store.stand c.claim_next-claimed.new.store in
    let h = hub_state c.args.self.now.seats in
    let x = sitting_of c.in-Some.session in
    let y = sitting_of c.claim_next-claimed.new.session in
    let out = with_sitting c.args.seat None h in
    let made = c.in-Ok.ensures.ok out.chairs (out_finds c.args.self.now.claims h c.args.seat c.args.self.now.claimed c.requires.free) in
    offer_does v w h (hub_state c.put_session.new.self) c.args.seat x y c.in-Ok.offer c.requires.turn (sym c.in-Some.ensures.session) c.requires.free
    (c.put_session.ensures ∙ ap (with_sitting c.args.seat (Some y)) c.take_session.ensures.after)
    made c.claim_next-claimed.ensures.leaves c.claim_next-claimed.ensures.settled

pub returns-in-Ok-clause-limits : goal.returns-in-Ok-clause-limits
returns-in-Ok-clause-limits g c =
    let v = g.S.Store.stand c.args.self.now.store in
    let w = g.S.Store.stand c.claim_next-claimed.new.store in
    let h = hub_state c.args.self.now.seats in
    let x = sitting_of c.in-Some.session in
    let y = sitting_of c.claim_next-claimed.new.session in
    put_fits (hub_state c.take_session.new.self) (hub_state c.put_session.new.self) c.args.seat y c.put_session.ensures
    (offer_fits h c.args.seat x y _ c.in-Ok.offer v.state w.state (sym c.in-Some.ensures.session) c.requires.free
    (c.in-Ok.ensures.ok (with_sitting c.args.seat None h).chairs (out_finds c.args.self.now.claims h c.args.seat c.args.self.now.claimed c.requires.free)))

pub returns-in-Err-clause-does : goal.returns-in-Err-clause-does
returns-in-Err-clause-does g c =
    let v = g.S.Store.stand c.args.self.now.store in
    let w = g.S.Store.stand c.claim_next-claimed.new.store in
    let h = hub_state c.args.self.now.seats in
    let k = hub_state c.put_session.new.self in
    let x = sitting_of c.in-Some.session in
    let y = sitting_of c.claim_next-claimed.new.session in
    let out = with_sitting c.args.seat None h in
    let refused = c.in-Err.ensures.err out.chairs (out_finds c.args.self.now.claims h c.args.seat c.args.self.now.claimed c.requires.free) in
    subst (λ (f : Fault). Does v h c.args.seat Offer_call (Refused f) w k) (sym c.refusal.ensures)
    (offer_err v w h k c.args.seat x y c.in-Err.fault c.requires.turn (sym c.in-Some.ensures.session) c.requires.free
    (c.put_session.ensures ∙ ap (with_sitting c.args.seat (Some y)) c.take_session.ensures.after)
    c.in-Err.ensures.kept refused c.claim_next-claimed.ensures.leaves c.claim_next-claimed.ensures.settled)

pub returns-in-Err-clause-limits : goal.returns-in-Err-clause-limits
returns-in-Err-clause-limits g c =
    let h = hub_state c.args.self.now.seats in
    let x = sitting_of c.in-Some.session in
    let y = sitting_of c.claim_next-claimed.new.session in
    put_fits (hub_state c.take_session.new.self) (hub_state c.put_session.new.self) c.args.seat y c.put_session.ensures
    (same_fits h c.args.seat x y (sym c.in-Some.ensures.session) c.requires.free c.in-Err.ensures.kept)

pub refusal-requires : goal.refusal-requires
refusal-requires g c = λ (e : c.in-Err.fault ≡ Read).
    let v = g.S.Store.stand c.args.self.now.store in
    let w = g.S.Store.stand c.claim_next-claimed.new.store in
    let h = hub_state c.args.self.now.seats in
    let out = with_sitting c.args.seat None h in
    subst (λ (f : StoreFault). RefusedBy (OneOf (v.state.content ∷ [])) loses_none (OffersFull out.chairs (sitting_of c.in-Some.session) v.state) f v.state w.state) e
    (c.in-Err.ensures.err out.chairs (out_finds c.args.self.now.claims h c.args.seat c.args.self.now.claimed c.requires.free))

pub invariant_of-self : goal.invariant_of-self
invariant_of-self g c =
    let v = g.S.Store.stand c.args.self.now.store in
    let w = g.S.Store.stand c.claim_next-claimed.new.store in
    let h = hub_state c.args.self.now.seats in
    let x = sitting_of c.in-Some.session in
    let y = sitting_of c.claim_next-claimed.new.session in
    let out = with_sitting c.args.seat None h in
    let old = c.args.self.now.claims in
    let new = c.claim_next-claimed.new.claims in
    let claimed = c.claim_next-claimed.ensures in
    let made = claimed.ok out.chairs (out_finds old h c.args.seat c.args.self.now.claimed c.requires.free) in
    let put = c.put_session.ensures ∙ (ap (with_sitting c.args.seat (Some y)) c.take_session.ensures.after ∙ sit_twice h c.args.seat (Some y) None) in
    let same = offered_same c.claim_next-claimed.result out.chairs v.state w.state x y made claimed.kept in
    record {
      claimed = subst (λ (k : HubState). ClaimsOf new k.chairs) (sym put)
          (claimed_finds c.claim_next-claimed.result old new h c.args.seat x y out.chairs v.state w.state c.args.self.now.claimed (sym c.in-Some.ensures.session) c.requires.free made claimed.claims claimed.kept claimed.unnoted);
      held = subst (λ (k : HubState). HoldsOf c.args.self.now.holds k.chairs) (sym put) (alike_holds c.args.self.now.holds h c.args.seat x y c.args.self.now.held (sym c.in-Some.ensures.session) same.0 same.1);
    }
