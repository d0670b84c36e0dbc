use Rattle.std.proofs.Common.{sym, subst}
use Rattle.hub_core.specs.Anew.{LooksAnew}
use Rattle.hub_core.specs.Holders.{HoldsOf}
use Rattle.hub_core.specs.Hubs.{HubState, IsReady, hub_state}
use Rattle.hub_core.specs.Indices.{ClaimsOf}
use Rattle.hub_core.proofs.Anew.{claims_anew, holds_anew, looks_anew, ready_anew}
use Rattle.hub_core.proofs.hub.Hub.look_anew.Goals as goal

pub returns-clause-anew : goal.returns-clause-anew
returns-clause-anew g c = subst LooksAnew (sym c.look_anew.ensures) (looks_anew (hub_state c.args.self.now.seats))

pub returns-clause-ready : goal.returns-clause-ready
returns-clause-ready g c =
    let w = g.S.Store.stand c.args.self.now.store in
    let h = hub_state c.args.self.now.seats in
    λ seat ready. subst (λ (k : HubState). IsReady w k seat) (sym c.look_anew.ensures) (ready_anew w h seat ready)

pub invariant_of-self : goal.invariant_of-self
invariant_of-self g c =
    let h = hub_state c.args.self.now.seats in
    record {
      claimed = subst (λ (k : HubState). ClaimsOf c.args.self.now.claims k.chairs) (sym c.look_anew.ensures) (claims_anew c.args.self.now.claims h c.args.self.now.claimed);
      held = subst (λ (k : HubState). HoldsOf c.args.self.now.holds k.chairs) (sym c.look_anew.ensures) (holds_anew c.args.self.now.holds h c.args.self.now.held);
    }
