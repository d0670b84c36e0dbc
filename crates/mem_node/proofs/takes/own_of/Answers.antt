use Rattle.std.proofs.Common.{rules, ap, ◌∙◌}
use Rattle.ftn_addr.specs.Address.{address}
use Rattle.node_store.specs.Names.{take_number}
use Rattle.mem_node.proofs.takes.own_of.Goals as goal

pub returns : goal.returns
returns c =
    ap take_number c.take_file.ensures ∙ c.take_is_read.ensures c.args.take (address c.args.addr.now) _ c.requires.one (search (rules)) (search (rules))
