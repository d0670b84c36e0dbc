use Rattle.ftn_addr.specs.Address.{address}
use Rattle.ftn_addr.specs.Key.{key_of}
use Rattle.hub_core.proofs.Wholes.{whole_broken}
use Rattle.hub_core.proofs.parts.receive_marked.Goals as goal

pub returns-in-Err-clause-err : goal.returns-in-Err-clause-err
returns-in-Err-clause-err g c =
    whole_broken c.in-Err.fault (g.S.Store.stand c.args.store.now).state (g.S.Store.stand c.open_part.new.store).state (g.S.Store.stand c.commit.new.self).state (address c.args.from.now) (key_of c.args.key.now) c.in_ok-at.at.part c.in_ok-at.at.len c.args.session c.args.secure (g.met.S.Store.tied c.args.store.now) c.requires.opens c.in_ok-at.ensures.ok c.in-Err.ensures.made
