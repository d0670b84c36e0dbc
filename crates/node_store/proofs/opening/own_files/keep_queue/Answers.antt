use Rattle.std.proofs.Common.{map, ◌∙◌}
use Rattle.ledger_rec.specs.Items.{entry}
use Rattle.node_store.specs.Keeping.{IsKeptEntry, HasBadEntry}
use Rattle.node_store.proofs.Kept.{finds_map, more_bad_entries, member_at}
use Rattle.node_store.proofs.Untouched.{untouched-then, beside-more}
use Rattle.std.proofs.Common.{[], ◌∷◌}
use Rattle.node_store.proofs.opening.own_files.keep_queue.Goals as goal

pub returns-in-Err-clause-bad : goal.returns-in-Err-clause-bad
returns-in-Err-clause-bad g c =
    let e = entry c.item-item.result in
    let es = map entry c.args.queue.now in
    let read = g.D.Disk.files c.keep_entry.new.disk in
    finds_map (HasBadEntry read (e ∷ [])) (HasBadEntry read es)
    (λ n. more_bad_entries read e es n (member_at entry c.args.queue.now c.loop-item.item-index c.item-item.result c.loop-item-test.true c.item-item.is)) c.in-Err.fault c.in-Err.ensures.bad

pub loop-item-preserved : goal.loop-item-preserved
loop-item-preserved g c = record {
  untouched = untouched-then g.D.Disk.files g.D.Disk.moment g.D.Disk.images c.args.disk.now c.loop-item.disk c.keep_entry.new.disk c.loop-item.invariant.untouched c.keep_entry.ensures.untouched;
  kept = beside-more g.D.Disk.files g.D.Disk.moment g.D.Disk.images entry IsKeptEntry c.args.queue.now c.loop-item.item-index c.item-item.result c.loop-item.disk c.keep_entry.new.disk c.loop-item-test.true c.item-item.is c.keep_entry.ensures.untouched c.loop-item.invariant.kept c.in-Ok.ensures.kept;
  calm = c.in-Ok.ensures.reason.calm ∙ c.loop-item.invariant.calm;
}
