use Rattle.std.proofs.Common.{◌≡◌, ◌++◌, map}
use Rattle.std.specs.List.{flat_map}
use Rattle.nodelist_comp.specs.Index.{node_bytes}
use Rattle.nodelist_comp.specs.Keyed.{seen}
use Rattle.nodelist_comp.specs.Views.{listed}
use Rattle.nodelist_comp.proofs.index.push_nodes.Given as goal

abbrev pub invariant-loop-node : goal.invariant-loop-node
invariant-loop-node l =
    l.out.list ++ flat_map node_bytes (map (λ n. listed n.now) l.node-iterator) ≡ l.fn.out.list ++ flat_map node_bytes (seen l.nodes.entries)
