use Rattle.ftn_addr.specs.Address.{address}
use Rattle.hub_core.specs.Hubs.{taking_of}
use Rattle.hub_core.proofs.Putting.{put_holds}
use Rattle.hub_core.proofs.parts.put_bytes.Goals as goal

pub returns-clause-holds : goal.returns-clause-holds
returns-clause-holds g c =
    put_holds (g.S.Store.stand c.args.store.now).state (g.S.Store.stand c.part_put.new.self).state (address c.args.from.now) (taking_of c.args.taken.now) c.args.bytes.now c.requires.holds c.requires.some c.in_ok-part_put.ensures.made
