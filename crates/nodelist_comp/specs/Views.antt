-- Nodes of the code, without where they lie in memory.
use Rattle.nodelist_comp.specs.Node.{ListedNode}
use Rattle.nodelist_comp.specs.declared.node.Listed.{Listed}

abbrev pub listed : Listed → ListedNode
listed n = record { zone = n.zone; net = n.net; node = n.node; kind = n.kind; host = n.host.list; port = n.port }
