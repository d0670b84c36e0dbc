use Rattle.ftn_addr.specs.Address.{address}
use Rattle.mail_conf.proofs.KnownAddresses.{known_has}
use Rattle.mail_conf.proofs.nodes.NodeList.has.Goals as goal

pub returns : goal.returns
returns c =
    let has = known_has c.args.addr.now c.self.inside.known.keys in
    let tracked = c.self.invariant (address c.args.addr.now) in
    cc (has, tracked, c.contains.ensures, c.self.view_is)
