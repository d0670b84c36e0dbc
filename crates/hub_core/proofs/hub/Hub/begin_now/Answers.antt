use Rattle.std.proofs.Common.{◌<◌, ◌+◌, refl, sym, ap, subst, map, arith}
use Rattle.ftn_addr.specs.Address.{address}
use Rattle.node_model.specs.Calls.{Open_call, Begun, Refused, Fault}
use Rattle.hub_core.specs.Hubs.{HubState, Sitting, hub_state, sitting_of}
use Rattle.hub_core.specs.HubCalls.{Does}
use Rattle.hub_core.proofs.BeginSteps.{begin_does, begin_refused}
use Rattle.hub_core.proofs.Claiming.{does_finds}
use Rattle.hub_core.specs.Holders.{HoldsOf}
use Rattle.hub_core.proofs.HoldSteps.{begun_holds}
use Rattle.hub_core.proofs.hub.Hub.begin_now.Goals as goal

pub returns-in-Ok : goal.returns-in-Ok
returns-in-Ok g c =
    let v = g.S.Store.stand c.args.self.now.store in
    let h = hub_state c.args.self.now.seats in
    let peers = map address c.args.peers.now in
    let few : h.begun < 4294967295 = omega (arith, c.if-self.false) in
    subst (λ (k : HubState). Does v h c.args.seat (Open_call c.args.role peers c.args.secure c.args.moment) (Begun (h.begun + 1)) v k) (sym c.begin_session.ensures)
    (begin_does v h c.args.seat c.args.role peers c.args.secure c.args.moment (sitting_of c.in-Ok.session) c.requires.turn c.requires.none_yet c.requires.limits few c.in-Ok.ensures)

pub returns-then-self : goal.returns-then-self
returns-then-self g c =
    let v = g.S.Store.stand c.args.self.now.store in
    let w = g.S.Store.stand c.refuse_number-fault.new.store in
    let h = hub_state c.args.self.now.seats in
    let peers = map address c.args.peers.now in
    subst (λ (f : Fault). Does v h c.args.seat (Open_call c.args.role peers c.args.secure c.args.moment) (Refused f) w h) (sym c.refusal.ensures)
    (begin_refused v w h c.args.seat c.args.role peers c.args.secure c.args.moment c.refuse_number-fault.result c.requires.turn c.if-self.true c.refuse_number-fault.ensures.refused c.refuse_number-fault.ensures.leaves c.refuse_number-fault.ensures.settled)

pub invariant_of-self-in-Ok : goal.invariant_of-self-in-Ok
invariant_of-self-in-Ok g c =
    let v = g.S.Store.stand c.args.self.now.store in
    let h = hub_state c.args.self.now.seats in
    let peers = map address c.args.peers.now in
    let call = Open_call c.args.role peers c.args.secure c.args.moment in
    let few : h.begun < 4294967295 = omega (arith, c.if-self.false) in
    let does = subst (λ (k : HubState). Does v h c.args.seat call (Begun (h.begun + 1)) v k) (sym c.begin_session.ensures)
    (begin_does v h c.args.seat c.args.role peers c.args.secure c.args.moment (sitting_of c.in-Ok.session) c.requires.turn c.requires.none_yet c.requires.limits few c.in-Ok.ensures) in
    record { claimed = does_finds c.args.self.now.claims v v h (hub_state c.begin_session.new.self) c.args.seat call (Begun (h.begun + 1)) c.args.self.now.claimed does refl; held = subst (λ (k : HubState). HoldsOf c.args.self.now.holds k.chairs) (sym c.begin_session.ensures) (begun_holds c.args.self.now.holds h c.args.seat (sitting_of c.in-Ok.session) c.args.self.now.held c.requires.none_yet (ap (λ (z : Sitting). z.hold) c.in-Ok.ensures.is)) }
