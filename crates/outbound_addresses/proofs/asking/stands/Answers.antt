use Rattle.outbound_addresses.proofs.Asked.{look_failed, looked}
use Rattle.outbound_addresses.proofs.asking.stands.Goals as goal

pub returns-in-Ok-clause-asks : goal.returns-in-Ok-clause-asks
returns-in-Ok-clause-asks g c = looked c.in-Ok.stat c.is_some.result _ _ c.in-Ok.ensures.asks

pub returns-in-Err-clause-asks : goal.returns-in-Err-clause-asks
returns-in-Err-clause-asks g c = look_failed c.in-Err.fault _ _ c.in-Err.ensures.asks
