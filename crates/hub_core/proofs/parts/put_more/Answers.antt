use Rattle.ftn_addr.specs.Address.{address}
use Rattle.hub_core.specs.Hubs.{taking_of}
use Rattle.hub_core.proofs.Putting.{more_broken}
use Rattle.hub_core.proofs.parts.put_more.Goals as goal

pub returns-in-Err-mark_where-clause-err : goal.returns-in-Err-mark_where-clause-err
returns-in-Err-mark_where-clause-err g c =
    more_broken c.in-Err-mark_where.fault (g.S.Store.stand c.args.store.now).state (g.S.Store.stand c.put_bytes.new.store).state (g.S.Store.stand c.mark_where.new.store).state (address c.args.from.now) (taking_of c.args.taken.now) c.args.bytes.now c.reaches_stride-reached.result c.in-Ok.ensures.ok c.reaches_stride-reached.ensures c.in-Err-mark_where.ensures.err
