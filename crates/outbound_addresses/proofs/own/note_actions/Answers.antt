use Rattle.std.proofs.Common.{List, map, sym, subst, take}
use Rattle.ledger_rec.specs.Items.{Entry, entry}
use Rattle.outbound_places.specs.Outbound.{Adds, OneOf}
use Rattle.outbound_places.proofs.Added.{grows-then, one_added}
use Rattle.outbound_addresses.specs.Own.{IsActionFor}
use Rattle.outbound_addresses.proofs.Walk.{taken_more}
use Rattle.outbound_addresses.proofs.own.note_actions.Goals as goal

pub loop-item-preserved : goal.loop-item-preserved
loop-item-preserved c =
    let i = c.loop-item.item-index in
    let x = c.item-item.result in
    let Of = IsActionFor c.args.domain.now.list in
    record {
      grows = grows-then c.args.found.now c.loop-item.found c.note_action.new.found c.loop-item.invariant.grows c.in-Ok.ensures.grows;
      adds = subst (λ (l : List Entry). Adds (OneOf Of l) c.args.found.now c.note_action.new.found) (sym (taken_more entry c.args.queue.now i x c.loop-item-test.true c.item-item.is))
          (one_added Of (map entry (take i c.args.queue.now)) (entry x) c.args.found.now c.loop-item.found c.note_action.new.found c.loop-item.invariant.adds c.in-Ok.ensures.adds c.in-Ok.ensures.grows);
    }
