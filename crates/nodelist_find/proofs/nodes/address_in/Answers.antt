use Rattle.std.proofs.Common.{rules}
use Rattle.nodelist_find.proofs.Among.{among}
use Rattle.nodelist_find.specs.Views.{bounds, spot}
use Rattle.nodelist_find.proofs.nodes.address_in.Goals as goal

pub returns-clause-inside : goal.returns-clause-inside
returns-clause-inside c = among (bounds c.args.of) (spot record { zone = c.in_ok-zone.zone; net = c.in_ok-net.net; node = c.in_ok-node.node }) c.requires (search rules) (search rules) (search rules)
