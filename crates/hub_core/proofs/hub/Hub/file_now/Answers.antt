use Rattle.std.proofs.Common.{◌<◌, Some, None, length, refl, sym, ◌∙◌, ap, subst}
use Rattle.ftn_addr.specs.Key.{key_of}
use Rattle.node_model.specs.Calls.{File_call}
use Rattle.node_model.specs.Desks.{file_answer}
use Rattle.hub_core.specs.Hubs.{HubState, hub_state, sitting_of, with_sitting}
use Rattle.hub_core.specs.HubCalls.{HasTurn, Does}
use Rattle.hub_core.proofs.Sittings.{sit_back, given_still}
use Rattle.hub_core.proofs.Claiming.{does_finds}
use Rattle.hub_core.specs.Holders.{HoldsOf}
use Rattle.hub_core.proofs.hub.Hub.file_now.Goals as goal

pub offer_file-result-requires-clause-turn : goal.offer_file-result-requires-clause-turn
offer_file-result-requires-clause-turn g c =
    let h = hub_state c.args.self.now.seats in
    let x = sitting_of c.in-Some.session in
    let back = ap (with_sitting c.args.seat (Some x)) c.take_session.ensures.after ∙ sit_back h c.args.seat (Some x) c.requires.turn.ready.given c.in-Some.ensures.session in
    subst (λ (k : HubState). HasTurn (g.S.Store.stand c.args.self.now.store) k c.args.seat) (sym back) c.requires.turn

pub put_session-requires : goal.put_session-requires
put_session-requires g c =
    subst (λ (k : HubState). c.args.seat < length k.chairs) (sym c.take_session.ensures.after) (given_still (hub_state c.args.self.now.seats) c.args.seat None c.requires.turn.ready.given)

pub returns : goal.returns
returns g c =
    let v = g.S.Store.stand c.args.self.now.store in
    let w = g.S.Store.stand c.offer_file-result.new.store in
    let h = hub_state c.args.self.now.seats in
    let x = sitting_of c.in-Some.session in
    let y = sitting_of c.offer_file-result.new.session in
    let k0 = hub_state c.take_session.new.self in
    let call = File_call (key_of c.args.key.now) c.args.offset in
    let back = ap (with_sitting c.args.seat (Some x)) c.take_session.ensures.after ∙ sit_back h c.args.seat (Some x) c.requires.turn.ready.given c.in-Some.ensures.session in
    subst (λ (k : HubState). Does v h c.args.seat call (file_answer c.offer_file-result.result) w k) (sym c.put_session.ensures)
    (subst (λ (k : HubState). Does v k c.args.seat call (file_answer c.offer_file-result.result) w (with_sitting c.args.seat (Some y) k0)) back c.offer_file-result.ensures.does)

pub invariant_of-self : goal.invariant_of-self
invariant_of-self g c =
    let v = g.S.Store.stand c.args.self.now.store in
    let w = g.S.Store.stand c.offer_file-result.new.store in
    let h = hub_state c.args.self.now.seats in
    let x = sitting_of c.in-Some.session in
    let y = sitting_of c.offer_file-result.new.session in
    let k0 = hub_state c.take_session.new.self in
    let call = File_call (key_of c.args.key.now) c.args.offset in
    let answer = file_answer c.offer_file-result.result in
    let back = ap (with_sitting c.args.seat (Some x)) c.take_session.ensures.after ∙ sit_back h c.args.seat (Some x) c.requires.turn.ready.given c.in-Some.ensures.session in
    let does = subst (λ (k : HubState). Does v h c.args.seat call answer w k) (sym c.put_session.ensures)
    (subst (λ (k : HubState). Does v k c.args.seat call answer w (with_sitting c.args.seat (Some y) k0)) back c.offer_file-result.ensures.does) in
    record { claimed = does_finds c.args.self.now.claims v w h (hub_state c.put_session.new.self) c.args.seat call answer c.args.self.now.claimed does refl; held = subst (λ (k : HubState). HoldsOf c.offer_file-result.new.holds k.chairs) (sym c.put_session.ensures) c.offer_file-result.ensures.finds }

pub offer_file-result-requires-clause-finds : goal.offer_file-result-requires-clause-finds
offer_file-result-requires-clause-finds g c =
    let h = hub_state c.args.self.now.seats in
    let x = sitting_of c.in-Some.session in
    let back = ap (with_sitting c.args.seat (Some x)) c.take_session.ensures.after ∙ sit_back h c.args.seat (Some x) c.requires.turn.ready.given c.in-Some.ensures.session in
    subst (λ (k : HubState). HoldsOf c.args.self.now.holds k.chairs) (sym back) c.args.self.now.held
