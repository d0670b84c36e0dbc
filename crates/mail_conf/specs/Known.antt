-- The addresses of nodes, as a set.
use Rattle.std.specs.Prelude.{◌≡◌, List}
use Rattle.std.specs.List.{list_any}
use Rattle.ftn_addr.specs.Address.{Address, address, same_address}
use Rattle.ftn_addr.specs.declared.addr.Addr.{Addr}
use Rattle.mail_conf.specs.Host.{NodeText}

-- the keys are the addresses of the nodes and no others
abbrev pub Tracks : List NodeText → List Addr → Type 0
Tracks nodes keys = (a : Address) → list_any (λ key. same_address a (address key)) keys ≡ list_any (λ node. same_address a node.addr) nodes
