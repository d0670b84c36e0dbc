use Rattle.std.proofs.Common.{◌∙◌, ap, nat_eq, sym}
use Rattle.ftn_addr.specs.Address.{address}
use Rattle.outbound_model.specs.OwnNames.{spelled}
use Rattle.outbound_store.proofs.OwnLemmas.{for_all, for_net, for_node, for_zone}
use Rattle.outbound_store.proofs.own.is_for.Goals as goal

pub returns-then-spelled-from : goal.returns-then-spelled-from
returns-then-spelled-from c =
    for_zone (address c.args.dest.now) c.args.own.now
    (λ same. c.if-spelled-from.true (c.spelled.ensures ∙ (ap (spelled 10 4) c.as_slice-name.ensures.bytes ∙ (same ∙ sym c.from.ensures))))

pub returns-then-spelled-from-2 : goal.returns-then-spelled-from-2
returns-then-spelled-from-2 c =
    for_net (address c.args.dest.now) c.args.own.now
    (λ same. c.if-spelled-from-2.true (c.spelled-2.ensures ∙ (ap (spelled 14 4) c.as_slice-name.ensures.bytes ∙ (same ∙ sym c.from-2.ensures))))

pub returns-then-spelled-from-3 : goal.returns-then-spelled-from-3
returns-then-spelled-from-3 c =
    for_node (address c.args.dest.now) c.args.own.now
    (λ same. c.if-spelled-from-3.true (c.spelled-3.ensures ∙ (ap (spelled 18 4) c.as_slice-name.ensures.bytes ∙ (same ∙ sym c.from-3.ensures))))

pub returns : goal.returns
returns c =
    let own = c.as_slice-name.ensures.bytes in
    for_all (address c.args.dest.now) c.args.own.now c.spelled-4.result (nat_eq c.spelled-4.result c.from-4.result) (sym (ap (spelled 10 4) own) ∙ (sym c.spelled.ensures ∙ (c.if-spelled-from.false ∙ c.from.ensures))) (sym (ap (spelled 14 4) own) ∙ (sym c.spelled-2.ensures ∙ (c.if-spelled-from-2.false ∙ c.from-2.ensures)))
    (sym (ap (spelled 18 4) own) ∙ (sym c.spelled-3.ensures ∙ (c.if-spelled-from-3.false ∙ c.from-3.ensures))) (sym (ap (spelled 22 4) own) ∙ sym c.spelled-4.ensures) (ap (nat_eq c.spelled-4.result) c.from-4.ensures)
