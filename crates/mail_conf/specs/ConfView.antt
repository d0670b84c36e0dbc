-- Settings of the code, without where they lie in memory.
use Rattle.std.specs.Prelude.{map}
use Rattle.ftn_addr.specs.Address.{address}
use Rattle.mail_conf.specs.Conf.{ConfText}
use Rattle.mail_conf.specs.Views.{node_text}
use Rattle.mail_conf.specs.declared.conf.Conf.{Conf}

abbrev pub conf_text : Conf → ConfText
conf_text c =
    record { addresses = map address c.addresses.items; sysname = c.sysname.list; sysop = c.sysop.list; location = c.location.list; nodeinfo = c.nodeinfo.list; domain = c.domain.list; base = c.base.list; inbound = c.inbound.list; inbound_nonsecure = c.inbound_nonsecure.list; zone = c.zone; port = c.port; max_servers = c.max_servers; max_clients = c.max_clients; block = c.block; nodes = map node_text c.nodes.items; refuse_names = map (λ name. name.list) c.refuse_names.items; refuse_over = c.refuse_over; shares = map (λ share. share.list) c.shares.items; session_limit = c.session_limit }
