use Rattle.std.proofs.Common.{◌≡◌, ◌+◌, ◌^◌, ◌≤◌, [], map}
use Rattle.nodelist_comp.specs.Views.{listed}
use Rattle.nodelist_find.proofs.OneNode.{IsBelow}
use Rattle.nodelist_find.specs.Nodes.{nodes_from}
use Rattle.nodelist_find.specs.Rising.{Rising}
use Rattle.nodelist_find.specs.Views.{seen}
use Rattle.nodelist_find.proofs.nodes.nodes_from.Given as goal

abbrev pub invariant-loop-left : goal.invariant-loop-left
invariant-loop-left l = record {
  nodes : nodes_from l.left l.next (map listed l.nodes.items) (seen l.rest) ≡ nodes_from l.fn.count 0 [] (seen l.fn.at);
  rising : Rising (map listed l.nodes.items);
  below : IsBelow (map listed l.nodes.items) l.next;
  room : l.next + l.left ≤ 2 ^ 45;
}

abbrev pub decreases-loop-left : goal.decreases-loop-left
decreases-loop-left l = l.left
