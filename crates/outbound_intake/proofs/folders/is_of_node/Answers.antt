use Rattle.std.proofs.Common.{rules}
use Rattle.ftn_addr.specs.Address.{address}
use Rattle.outbound_intake.proofs.FolderLemmas.{node_within, points_net, points_node, points_unread}
use Rattle.outbound_intake.proofs.folders.is_of_node.Goals as goal

pub returns-then-net-dest : goal.returns-then-net-dest
returns-then-net-dest c = points_node c.in-Some.net c.in-Some.node c.args.dest.now.net c.args.dest.now.node c.args.name.now.list (node_within (address c.args.dest.now) c.requires) (search rules) c.if-net-dest.true

pub returns-else-net-dest : goal.returns-else-net-dest
returns-else-net-dest c = points_net c.in-Some.net c.in-Some.node c.args.dest.now.net c.args.dest.now.node c.args.name.now.list (node_within (address c.args.dest.now) c.requires) (search rules) c.if-net-dest.false

pub returns-in-None : goal.returns-in-None
returns-in-None c = points_unread (c.args.dest.now.net, c.args.dest.now.node) c.args.name.now.list (node_within (address c.args.dest.now) c.requires) (search rules)
