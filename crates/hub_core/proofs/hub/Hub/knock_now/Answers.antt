use Rattle.std.proofs.Common.{refl, sym, subst}
use Rattle.node_model.specs.Calls.{Knock_call, Busy}
use Rattle.hub_core.specs.Hubs.{HubState, hub_state}
use Rattle.hub_core.specs.HubCalls.{Does}
use Rattle.hub_core.proofs.KnockSteps.{come_does, busy_does}
use Rattle.hub_core.specs.Indices.{ClaimsOf}
use Rattle.hub_core.proofs.Claiming.{counted_finds}
use Rattle.hub_core.specs.Holders.{HoldsOf}
use Rattle.hub_core.proofs.HoldSteps.{counted_holds}
use Rattle.hub_core.proofs.hub.Hub.knock_now.Goals as goal

pub returns-then-turns_away : goal.returns-then-turns_away
returns-then-turns_away g c =
    let v = g.S.Store.stand c.args.self.now.store in
    let h = hub_state c.args.self.now.seats in
    subst (λ (k : HubState). Does v h c.args.seat (Knock_call c.args.role) Busy v k) (sym c.count_busy.ensures) (busy_does v h c.args.seat c.args.role c.requires (sym c.if-turns_away.ensures))

pub returns-else-turns_away : goal.returns-else-turns_away
returns-else-turns_away g c =
    come_does (g.S.Store.stand c.args.self.now.store) (hub_state c.args.self.now.seats) c.args.seat c.args.role c.requires (sym c.if-turns_away.ensures)

pub invariant_of-self : goal.invariant_of-self
invariant_of-self g c =
    let h = hub_state c.args.self.now.seats in
    record { claimed = subst (λ (k : HubState). ClaimsOf c.args.self.now.claims k.chairs) (sym c.count_busy.ensures) (counted_finds c.args.self.now.claims h c.args.seat _ c.args.self.now.claimed refl); held = subst (λ (k : HubState). HoldsOf c.args.self.now.holds k.chairs) (sym c.count_busy.ensures) (counted_holds c.args.self.now.holds h c.args.seat _ c.args.self.now.held refl) }
