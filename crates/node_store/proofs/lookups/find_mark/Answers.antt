use Rattle.std.proofs.Common.{arith, sym, ◌∙◌, ap}
use Rattle.std.specs.Prelude.{option_map}
use Rattle.ftn_addr.specs.Address.{address}
use Rattle.ftn_addr.specs.Files.{is_same}
use Rattle.ftn_addr.specs.Key.{key_of as key_in}
use Rattle.ledger_rec.specs.declared.items.MarkItem.{MarkItem}
use Rattle.node_store.specs.Lookups.{at_mark}
use Rattle.node_store.proofs.Known.{find_here, find_next, find_end}
use Rattle.node_store.proofs.lookups.find_mark.Goals as goal

pub returns-then-is_same : goal.returns-then-is_same
returns-then-is_same c =
    let here = find_here (λ (m : MarkItem). is_same (address c.args.from.now) (key_in c.args.key.now) (address m.from) (key_in m.key)) c.args.marks.now c.loop-mark.mark-index c.mark-item.result c.loop-mark-test.true c.mark-item.is (sym c.is_same.ensures ∙ c.if-is_same.true) in
    ap (option_map at_mark) (sym here ∙ c.loop-mark.invariant)

pub loop-mark-preserved : goal.loop-mark-preserved
loop-mark-preserved c =
    find_next (λ (m : MarkItem). is_same (address c.args.from.now) (key_in c.args.key.now) (address m.from) (key_in m.key)) c.args.marks.now c.loop-mark.mark-index c.mark-item.result c.loop-mark-test.true c.mark-item.is (sym c.is_same.ensures ∙ c.if-is_same.false)
    ∙ c.loop-mark.invariant

pub returns : goal.returns
returns c =
    ap (option_map at_mark) (sym (find_end (λ (m : MarkItem). is_same (address c.args.from.now) (key_in c.args.key.now) (address m.from) (key_in m.key)) c.args.marks.now c.loop-mark.mark-index (omega arith)) ∙ c.loop-mark.invariant)
