use Rattle.std.proofs.Common.{◌≡◌, ◌+◌, ◌-◌, ◌≤◌, ◌^◌, ℕ, ◌∷◌, [], ◌++◌, List, Ok, map, sym, ap, ◌∙◌, subst, arith}
use Rattle.std.proofs.lemmas.List.{map-append}
use Rattle.nodelist_comp.specs.Node.{ListedNode}
use Rattle.nodelist_comp.specs.Views.{listed}
use Rattle.nodelist_find.proofs.OneNode.{IsBelow, below_push, nodes_more, rising_more}
use Rattle.nodelist_find.proofs.SpotNumbers.{ordinal-spot_at}
use Rattle.nodelist_find.specs.Nodes.{Bounds, IsAmong, address_of, bounds_for, node_at, nodes_from, ordinal}
use Rattle.nodelist_find.specs.Rising.{Rising}
use Rattle.nodelist_find.specs.Views.{seen}
use Rattle.nodelist_find.proofs.nodes.nodes_from.Goals as goal

pub loop-left-preserved : goal.loop-left-preserved
loop-left-preserved c =
    let nodes = map listed c.loop-left.nodes.items in
    let node = listed c.in_ok-node.node in
    let next = c.loop-left.next in
    let left = c.loop-left.left in
    let pushed : map listed c.push.new.self.items ≡ nodes ++ node ∷ [] = ap (map listed) c.in_ok-push.ensures.items ∙ map-append listed c.loop-left.nodes.items (c.in_ok-node.node ∷ []) in
    let read : node_at (bounds_for next left) (seen c.loop-left.rest) ≡ Ok (node, seen c.in_ok-node.after) = ap (λ (b : Bounds). node_at b (seen c.loop-left.rest)) (sym c.of.ensures.of) ∙ c.in_ok-node.ensures.gives in
    let among : IsAmong (bounds_for next left) (address_of node) = subst (λ (b : Bounds). IsAmong b (address_of node)) c.of.ensures.of c.in_ok-node.ensures.inside in
    let low : next ≤ ordinal (address_of node) = (let on = among.low in omega (arith, on, ordinal-spot_at next)) in
    let high : ordinal (address_of node) ≤ 2 ^ 45 - left = (let on = among.high in omega (arith, on, ordinal-spot_at (2 ^ 45 - left))) in
    let after : c.ordinal-next.result ≡ ordinal (address_of node) = c.ordinal-next.ensures ∙ ap ordinal c.spot_of.ensures in
    record {
      nodes = ap (λ (n : ℕ). nodes_from (left - 1) (n + 1) (map listed c.push.new.self.items) (seen c.in_ok-node.after)) after ∙ ap (λ (ns : List ListedNode). nodes_from (left - 1) (ordinal (address_of node) + 1) ns (seen c.in_ok-node.after)) pushed ∙ sym (nodes_more left (left - 1) next nodes (seen c.loop-left.rest) (seen c.in_ok-node.after) node (omega arith) read) ∙ c.loop-left.invariant.nodes;
      rising = subst (λ (ns : List ListedNode). Rising ns) (sym pushed) (rising_more nodes node next c.loop-left.invariant.rising c.loop-left.invariant.below among.is low);
      below = subst (λ (n : ℕ). IsBelow (map listed c.push.new.self.items) (n + 1)) (sym after) (subst (λ (ns : List ListedNode). IsBelow ns (ordinal (address_of node) + 1)) (sym pushed) (below_push nodes node among.is));
      room = omega (arith, after, high, c.loop-left.invariant.room);
    }
