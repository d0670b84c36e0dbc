-- Where a node that is called is reached: by the settings, or by the index of the nodelist (own; FTS-5000).
use Rattle.std.specs.Prelude.{nat_lt, List, length, Option, Some, None, find, option_map, if◌then◌else◌}
use Rattle.std.specs.Option.{option_or}
use Rattle.ftn_addr.specs.Address.{Address, same_address}
use Rattle.binkp_link.specs.LineSources.{Dialling}
use Rattle.mail_conf.specs.Conf.{ConfText}
use Rattle.mail_conf.specs.Host.{NodeText}
use Rattle.nodelist_comp.specs.Node.{ListedNode}
use Rattle.nodelist_files.specs.IndexFile.{direct_of}
use Rattle.call_hosts.specs.declared.hosts.Host.{Host}

abbrev pub host_text : Host → Dialling
host_text h = record { host = h.name.list; port = h.port }

abbrev pub set_at : Option NodeText → Option Dialling
set_at None = None
set_at (Some node) = if nat_lt 0 (length node.host) then Some (record { host = node.host; port = node.port }) else None

-- the host and port that the settings have for a node
abbrev pub set_host : ConfText → Address → Option Dialling
set_host c peer = set_at (find (λ (node : NodeText). same_address node.addr peer) c.nodes)

abbrev pub listed_at : ListedNode → Dialling
listed_at node = record { host = node.host; port = node.port }

-- those that an index has for it
abbrev pub listed_host : Option (List ListedNode) → Address → Option Dialling
listed_host None peer = None
listed_host (Some nodes) peer = option_map listed_at (direct_of nodes peer)

-- those of the settings, else those of an index
abbrev pub host_at : ConfText → Option (List ListedNode) → Address → Option Dialling
host_at c index peer = option_or (set_host c peer) (listed_host index peer)
