use Rattle.std.proofs.Common.{◌≡◌, drop, fold, map}
use Rattle.nodelist_comp.specs.Index.{in_order, with_node}
use Rattle.nodelist_comp.specs.Keyed.{Keyed, seen}
use Rattle.nodelist_comp.specs.Views.{listed}
use Rattle.nodelist_comp.proofs.index.in_order.Given as goal

abbrev pub invariant-loop-node : goal.invariant-loop-node
invariant-loop-node l = record {
  nodes : fold with_node (seen l.nodes.entries) (map listed (drop l.node-index l.list)) ≡ in_order (map listed l.list);
  keyed : Keyed l.nodes.entries;
}
