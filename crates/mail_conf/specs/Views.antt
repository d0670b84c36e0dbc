-- Settings of the code, without where they lie in memory.
use Rattle.ftn_addr.specs.Address.{address}
use Rattle.mail_conf.specs.Domain.{DomainText}
use Rattle.mail_conf.specs.Host.{NodeText}
use Rattle.mail_conf.specs.declared.conf.Node.{Node}
use Rattle.mail_conf.specs.declared.domain.DomainLine.{DomainLine}

abbrev pub domain_text : DomainLine → DomainText
domain_text line = record { name = line.name.list; base = line.base.list; zone = line.zone }

abbrev pub node_text : Node → NodeText
node_text n = record { addr = address n.addr; host = n.host.list; port = n.port; password = n.password.list }
