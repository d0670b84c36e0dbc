use Rattle.std.proofs.Common.{ap, subst}
use Rattle.ftn_addr.specs.Key.{key_of}
use Rattle.node_model.specs.StoreWords.{KeyOf}
use Rattle.node_model.specs.Stores.{StoreState}
use Rattle.hub_core.specs.Hubs.{sitting_of}
use Rattle.hub_core.specs.Sending.{OffersFull, passed_sitting}
use Rattle.hub_core.proofs.OfferSteps.{reserve_refused}
use Rattle.hub_core.proofs.offering.claim_next.Goals as goal

pub returns-in-Err-clause-err : goal.returns-in-Err-clause-err
returns-in-Err-clause-err g c = λ chairs has.
    let s = (g.S.Store.stand c.args.store.now).state in
    reserve_refused (OffersFull chairs (sitting_of c.args.session.now) s) c.in-Err.fault s (g.S.Store.stand c.reserve.new.self).state
    (λ lacks. record { at = c.in-Some.next; first = c.in-Some.ensures.next chairs has; lacks = lacks })
    c.in-Err.ensures.made

pub returns-in-Ok-claim-clause-ok : goal.returns-in-Ok-claim-clause-ok
returns-in-Ok-claim-clause-ok g c = λ chairs has. record {
  flavour = c.in-Some.next.0;
  first = c.in-Some.ensures.next chairs has;
  keyed = subst (λ (s : StoreState). KeyOf c.in-Some.next.1 (key_of c.in-Ok-claim.key) s.stock.state.queue) c.in-Ok.ensures.made.1 c.in-Ok-claim.ensures.keyed;
  limits = c.in-Ok-claim.ensures.limits;
  room = c.in-Ok.ensures.made.0;
  after = c.in-Ok.ensures.made.1;
  passed = c.pass-passed.result;
  goes_on = c.pass-passed.ensures;
  claimed = ap (passed_sitting c.pass-passed.result) c.in-Ok-claim.ensures.claimed;
}
