use Rattle.ftn_addr.specs.Address.{address}
use Rattle.ftn_addr.specs.Key.{key_of}
use Rattle.node_store.proofs.Known.{mark_is}
use Rattle.node_store.proofs.lookups.mark_of.Goals as goal

pub returns : goal.returns
returns c = λ tells w given.
    mark_is (address c.args.from.now) (key_of c.args.key.now) tells w given c.args.folded.now.state c.marks.result.now c.find_mark.result c.marks.ensures c.find_mark.ensures
