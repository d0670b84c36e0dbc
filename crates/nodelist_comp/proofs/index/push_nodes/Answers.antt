use Rattle.std.proofs.Common.{◌++◌, List, map, ap, ◌∙◌, Bor}
use Rattle.std.specs.List.{flat_map}
use Rattle.nodelist_comp.proofs.InOrder.{seen-values}
use Rattle.nodelist_comp.specs.Index.{node_bytes}
use Rattle.nodelist_comp.specs.Node.{ListedNode}
use Rattle.nodelist_comp.specs.Views.{listed}
use Rattle.nodelist_comp.specs.declared.node.Listed.{Listed}
use Rattle.nodelist_comp.proofs.index.push_nodes.Goals as goal

pub loop-node-init : goal.loop-node-init
loop-node-init c =
    let out = c.args.out.now.list in
    let all = c.into_iter-node-iterator.ensures.into_iter_gives ∙ c.values-node-items.ensures.rest in
    ap (λ (ns : List (Bor Listed)). out ++ flat_map node_bytes (map (λ (n : Bor Listed). listed n.now) ns)) all ∙ ap (λ (ns : List ListedNode). out ++ flat_map node_bytes ns) (seen-values c.args.nodes.now.entries)
