use Rattle.std.proofs.Common.{◌≡◌, drop, map}
use Rattle.std.specs.Prelude.{find}
use Rattle.ftn_addr.specs.Address.{address, same_address}
use Rattle.mail_conf.specs.Views.{node_text}
use Rattle.mail_conf.proofs.conf.node_in.Given as goal

abbrev pub invariant-loop-node : goal.invariant-loop-node
invariant-loop-node l =
    find (λ node. same_address node.addr (address l.addr)) (map node_text (drop l.node-index l.nodes)) ≡ find (λ node. same_address node.addr (address l.addr)) (map node_text l.nodes)
