use Rattle.std.proofs.Common.{◌≡◌, false, true, sym, ap, ◌∙◌}
use Rattle.std.proofs.lemmas.Bool.{cond-false, cond-true}
use Rattle.nodelist_comp.proofs.InOrder.{has_seen, seen-insert}
use Rattle.nodelist_comp.specs.Index.{insert_node}
use Rattle.nodelist_comp.specs.Keyed.{seen}
use Rattle.nodelist_comp.specs.Node.{has_place}
use Rattle.nodelist_comp.specs.Views.{listed}
use Rattle.nodelist_comp.proofs.index.put.Goals as goal

pub returns-in_ok-insert-clause-nodes : goal.returns-in_ok-insert-clause-nodes
returns-in_ok-insert-clause-nodes c =
    let entries = c.args.nodes.now.entries in
    let place = c.place-place.result in
    let absent : has_place (seen entries) place ≡ false = sym (has_seen entries place c.requires) ∙ sym c.contains_key.ensures ∙ c.if-not-contains_key.true in
    let put = seen-insert entries place c.args.node c.place-place.ensures c.requires absent in
    ap seen c.in_ok-insert.ensures.entries ∙ put.0 ∙ sym (cond-false _ (seen entries) (insert_node (listed c.args.node.now) (seen entries)) (ap (has_place (seen entries)) (sym c.place-place.ensures) ∙ absent))

pub returns-in_ok-insert-clause-keyed : goal.returns-in_ok-insert-clause-keyed
returns-in_ok-insert-clause-keyed c =
    let entries = c.args.nodes.now.entries in
    let place = c.place-place.result in
    let absent : has_place (seen entries) place ≡ false = sym (has_seen entries place c.requires) ∙ sym c.contains_key.ensures ∙ c.if-not-contains_key.true in
    rw c.in_ok-insert.ensures.entries (seen-insert entries place c.args.node c.place-place.ensures c.requires absent).1

pub returns-else-not-contains_key-clause-nodes : goal.returns-else-not-contains_key-clause-nodes
returns-else-not-contains_key-clause-nodes c =
    let entries = c.args.nodes.now.entries in
    let place = c.place-place.result in
    let present : has_place (seen entries) place ≡ true = sym (has_seen entries place c.requires) ∙ sym c.contains_key.ensures ∙ c.if-not-contains_key.false in
    sym (cond-true _ (seen entries) (insert_node (listed c.args.node.now) (seen entries)) (ap (has_place (seen entries)) (sym c.place-place.ensures) ∙ present))
