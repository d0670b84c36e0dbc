use Rattle.ftn_addr.specs.Address.{address}
use Rattle.hub_core.specs.Hubs.{taking_of}
use Rattle.hub_core.proofs.Putting.{last_broken}
use Rattle.hub_core.proofs.parts.put_last.Goals as goal

pub returns-in-Err-make_receipt-clause-err : goal.returns-in-Err-make_receipt-clause-err
returns-in-Err-make_receipt-clause-err g c =
    last_broken c.in-Err-make_receipt.fault (g.S.Store.stand c.args.store.now).state (g.S.Store.stand c.put_bytes.new.store).state (g.S.Store.stand c.make_receipt.new.store).state (address c.args.from.now) (taking_of c.args.taken.now) c.args.bytes.now c.args.session c.args.secure c.in-Ok.ensures.ok c.in-Err-make_receipt.ensures.err
