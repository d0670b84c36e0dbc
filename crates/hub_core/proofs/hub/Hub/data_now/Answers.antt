use Rattle.std.proofs.Common.{◌<◌, Option, Some, None, length, refl, sym, ◌∙◌, ap, subst}
use Rattle.node_model.specs.Calls.{Data_call}
use Rattle.node_model.specs.Desks.{DataExact, Fits, data_answer}
use Rattle.hub_core.specs.Hubs.{Sitting, HubState, hub_state, sitting_of, sitting_part, with_sitting}
use Rattle.hub_core.specs.HubCalls.{HasTurn, Does}
use Rattle.hub_core.proofs.Sittings.{sit_back, given_still}
use Rattle.hub_core.proofs.Claiming.{does_finds}
use Rattle.hub_core.specs.Holders.{HoldsOf}
use Rattle.hub_core.proofs.hub.Hub.data_now.Goals as goal

pub take_data-result-requires-clause-turn : goal.take_data-result-requires-clause-turn
take_data-result-requires-clause-turn g c =
    let h = hub_state c.args.self.now.seats in
    let x = sitting_of c.in-Some.session in
    let back = ap (with_sitting c.args.seat (Some x)) c.take_session.ensures.after ∙ sit_back h c.args.seat (Some x) c.requires.turn.ready.given c.in-Some.ensures.session in
    subst (λ (k : HubState). HasTurn (g.S.Store.stand c.args.self.now.store) k c.args.seat) (sym back) c.requires.turn

pub take_data-result-requires-clause-fits : goal.take_data-result-requires-clause-fits
take_data-result-requires-clause-fits g c =
    subst (λ (o : Option Sitting). Fits (sitting_part o) (length c.args.bytes.now)) (sym c.in-Some.ensures.session) c.requires.fits

pub put_session-requires : goal.put_session-requires
put_session-requires g c =
    subst (λ (k : HubState). c.args.seat < length k.chairs) (sym c.take_session.ensures.after) (given_still (hub_state c.args.self.now.seats) c.args.seat None c.requires.turn.ready.given)

pub returns-clause-does : goal.returns-clause-does
returns-clause-does g c =
    let v = g.S.Store.stand c.args.self.now.store in
    let w = g.S.Store.stand c.take_data-result.new.store in
    let h = hub_state c.args.self.now.seats in
    let x = sitting_of c.in-Some.session in
    let y = sitting_of c.take_data-result.new.session in
    let k0 = hub_state c.take_session.new.self in
    let call = Data_call c.args.bytes.now in
    let back = ap (with_sitting c.args.seat (Some x)) c.take_session.ensures.after ∙ sit_back h c.args.seat (Some x) c.requires.turn.ready.given c.in-Some.ensures.session in
    subst (λ (k : HubState). Does v h c.args.seat call (data_answer c.take_data-result.result) w k) (sym c.put_session.ensures)
    (subst (λ (k : HubState). Does v k c.args.seat call (data_answer c.take_data-result.result) w (with_sitting c.args.seat (Some y) k0)) back c.take_data-result.ensures.does)

pub returns-clause-exact : goal.returns-clause-exact
returns-clause-exact g c =
    subst (λ (o : Option Sitting). DataExact (sitting_part o).held (length c.args.bytes.now) (data_answer c.take_data-result.result)) c.in-Some.ensures.session c.take_data-result.ensures.exact

pub invariant_of-self : goal.invariant_of-self
invariant_of-self g c =
    let v = g.S.Store.stand c.args.self.now.store in
    let w = g.S.Store.stand c.take_data-result.new.store in
    let h = hub_state c.args.self.now.seats in
    let x = sitting_of c.in-Some.session in
    let y = sitting_of c.take_data-result.new.session in
    let k0 = hub_state c.take_session.new.self in
    let call = Data_call c.args.bytes.now in
    let answer = data_answer c.take_data-result.result in
    let back = ap (with_sitting c.args.seat (Some x)) c.take_session.ensures.after ∙ sit_back h c.args.seat (Some x) c.requires.turn.ready.given c.in-Some.ensures.session in
    let does = subst (λ (k : HubState). Does v h c.args.seat call answer w k) (sym c.put_session.ensures)
    (subst (λ (k : HubState). Does v k c.args.seat call answer w (with_sitting c.args.seat (Some y) k0)) back c.take_data-result.ensures.does) in
    record { claimed = does_finds c.args.self.now.claims v w h (hub_state c.put_session.new.self) c.args.seat call answer c.args.self.now.claimed does refl; held = subst (λ (k : HubState). HoldsOf c.take_data-result.new.holds k.chairs) (sym c.put_session.ensures) c.take_data-result.ensures.finds }

pub take_data-result-requires-clause-finds : goal.take_data-result-requires-clause-finds
take_data-result-requires-clause-finds g c =
    let h = hub_state c.args.self.now.seats in
    let x = sitting_of c.in-Some.session in
    let back = ap (with_sitting c.args.seat (Some x)) c.take_session.ensures.after ∙ sit_back h c.args.seat (Some x) c.requires.turn.ready.given c.in-Some.ensures.session in
    subst (λ (k : HubState). HoldsOf c.args.self.now.holds k.chairs) (sym back) c.args.self.now.held
