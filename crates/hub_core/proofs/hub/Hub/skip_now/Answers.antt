use Rattle.std.proofs.Common.{◌≡◌, ◌<◌, ℕ, cond, Option, Some, None, length, sym, ◌∙◌, ap, subst}
use Rattle.node_model.specs.Calls.{Skip_call, Settled}
use Rattle.node_model.specs.Desks.{Claim, number_in}
use Rattle.hub_core.specs.Hubs.{HubState, Sitting, hub_state, sitting_of, with_sitting, sitting_at}
use Rattle.hub_core.specs.HubCalls.{Does}
use Rattle.hub_core.specs.Sending.{claim_number, claims, skipped_sitting}
use Rattle.hub_core.proofs.GotSteps.{skip_does, skip_broken, place_now}
use Rattle.hub_core.proofs.ReadSteps.{part_claims}
use Rattle.hub_core.proofs.Sittings.{given_still}
use Rattle.hub_core.specs.Indices.{ClaimsOf, claimer, is_just}
use Rattle.hub_core.proofs.Claiming.{removed_finds}
use Rattle.hub_core.proofs.Sittings.{sit_twice}
use Rattle.hub_core.specs.Holders.{HoldsOf}
use Rattle.hub_core.proofs.HoldSteps.{alike_holds}
use Rattle.hub_core.proofs.hub.Hub.skip_now.Goals as goal

pub put_session-requires : goal.put_session-requires
put_session-requires g c =
    let h = hub_state c.args.self.now.seats in
    subst (λ (k : HubState). c.args.seat < length k.chairs) (sym c.take_session.ensures.after) (given_still h c.args.seat None c.requires.ready.given)

pub give_place-requires-clause-place : goal.give_place-requires-clause-place
give_place-requires-clause-place g c =
    let v = g.S.Store.stand c.args.self.now.store in
    let h = hub_state c.args.self.now.seats in
    let x = sitting_of c.in-Some.session in
    let sits : sitting_at h c.args.seat ≡ Some x = sym c.in-Some.ensures.session in
    place_now v h c.args.seat x c.requires.claimed.claim (record { ready = c.requires.ready; seat_is = c.requires.turn; whole = sym c.in-None.ensures }) sits (sym (part_claims h c.args.seat x sits) ∙ c.requires.claimed.is)

pub returns-in-None : goal.returns-in-None
returns-in-None g c =
    let v = g.S.Store.stand c.args.self.now.store in
    let w = g.S.Store.stand c.give_place.new.store in
    let h = hub_state c.args.self.now.seats in
    let k = hub_state c.put_session.new.self in
    let x = sitting_of c.in-Some.session in
    let y = sitting_of c.skip.new.self in
    let claim = c.requires.claimed.claim in
    let sits : sitting_at h c.args.seat ≡ Some x = sym c.in-Some.ensures.session in
    let claimed : x.claim ≡ Some claim = sym (part_claims h c.args.seat x sits) ∙ c.requires.claimed.is in
    let skipped : y ≡ skipped_sitting claim.number x = c.skip.ensures ∙ ap (λ (o : Option Claim). skipped_sitting (claim_number o) x) claimed in
    subst (λ (n : ℕ). Does v h c.args.seat (Skip_call n) Settled w k) (sym (ap number_in c.requires.claimed.is))
    (skip_does v w h k c.args.seat x y claim (record { ready = c.requires.ready; seat_is = c.requires.turn; whole = sym c.in-None.ensures }) sits claimed (c.put_session.ensures ∙ ap (with_sitting c.args.seat (Some y)) c.take_session.ensures.after) skipped c.give_place.ensures.made c.give_place.ensures.leaves c.give_place.ensures.settled)

pub returns-in-Some-broken : goal.returns-in-Some-broken
returns-in-Some-broken g c =
    let v = g.S.Store.stand c.args.self.now.store in
    let h = hub_state c.args.self.now.seats in
    let k = hub_state c.put_session.new.self in
    let x = sitting_of c.in-Some.session in
    let y = sitting_of c.skip.new.self in
    let claim = c.requires.claimed.claim in
    let sits : sitting_at h c.args.seat ≡ Some x = sym c.in-Some.ensures.session in
    let claimed : x.claim ≡ Some claim = sym (part_claims h c.args.seat x sits) ∙ c.requires.claimed.is in
    let skipped : y ≡ skipped_sitting claim.number x = c.skip.ensures ∙ ap (λ (o : Option Claim). skipped_sitting (claim_number o) x) claimed in
    subst (λ (n : ℕ). Does v h c.args.seat (Skip_call n) Settled v k) (sym (ap number_in c.requires.claimed.is))
    (skip_broken v h k c.args.seat x y claim _ (sym c.in-Some-broken.ensures) c.requires.turn c.requires.ready.given sits claimed (c.put_session.ensures ∙ ap (with_sitting c.args.seat (Some y)) c.take_session.ensures.after) skipped)

pub invariant_of-self : goal.invariant_of-self
invariant_of-self g c =
    let h = hub_state c.args.self.now.seats in
    let x = sitting_of c.in-Some.session in
    let y = sitting_of c.skip.new.self in
    let put = c.put_session.ensures ∙ (ap (with_sitting c.args.seat (Some y)) c.take_session.ensures.after ∙ sit_twice h c.args.seat (Some y) None) in
    let did = λ (n : ℕ). c.remove.ensures n ∙ ap (λ (o : Option ℕ). cond (is_just n o) None (claimer c.args.self.now.claims n)) c.claimed.ensures in
    record {
      claimed = subst (λ (k : HubState). ClaimsOf c.remove.new.self k.chairs) (sym put)
          (removed_finds c.args.self.now.claims c.remove.new.self h c.args.seat x (Some y) c.args.self.now.claimed (sym c.in-Some.ensures.session) did (λ n. ap (λ (z : Sitting). claims n z.claim) c.skip.ensures));
      held = subst (λ (k : HubState). HoldsOf c.args.self.now.holds k.chairs) (sym put) (alike_holds c.args.self.now.holds h c.args.seat x y c.args.self.now.held (sym c.in-Some.ensures.session) (ap (λ (z : Sitting). z.first) c.skip.ensures) (ap (λ (z : Sitting). z.hold) c.skip.ensures));
    }

pub invariant_of-self-in-Some-broken : goal.invariant_of-self-in-Some-broken
invariant_of-self-in-Some-broken g c =
    let h = hub_state c.args.self.now.seats in
    let x = sitting_of c.in-Some.session in
    let y = sitting_of c.skip.new.self in
    let put = c.put_session.ensures ∙ (ap (with_sitting c.args.seat (Some y)) c.take_session.ensures.after ∙ sit_twice h c.args.seat (Some y) None) in
    let did = λ (n : ℕ). c.remove.ensures n ∙ ap (λ (o : Option ℕ). cond (is_just n o) None (claimer c.args.self.now.claims n)) c.claimed.ensures in
    record {
      claimed = subst (λ (k : HubState). ClaimsOf c.remove.new.self k.chairs) (sym put)
          (removed_finds c.args.self.now.claims c.remove.new.self h c.args.seat x (Some y) c.args.self.now.claimed (sym c.in-Some.ensures.session) did (λ n. ap (λ (z : Sitting). claims n z.claim) c.skip.ensures));
      held = subst (λ (k : HubState). HoldsOf c.args.self.now.holds k.chairs) (sym put) (alike_holds c.args.self.now.holds h c.args.seat x y c.args.self.now.held (sym c.in-Some.ensures.session) (ap (λ (z : Sitting). z.first) c.skip.ensures) (ap (λ (z : Sitting). z.hold) c.skip.ensures));
    }
