use Rattle.std.proofs.Common.{List, ℕ, map, subst, ◌∙◌}
use Rattle.disk_model.specs.Changes.{SameAt}
use Rattle.ledger_rec.specs.Items.{part_mark}
use Rattle.node_store.specs.Keeping.{IsKeptMark}
use Rattle.node_store.specs.Worlds.{HasFront}
use Rattle.node_store.proofs.Kept.{bad_mark, member_at}
use Rattle.node_store.proofs.Untouched.{untouched-then, beside-more, beside-map}
use Rattle.node_store.proofs.opening.own_files.keep_marks.Goals as goal

pub returns-in-Err-clause-bad : goal.returns-in-Err-clause-bad
returns-in-Err-clause-bad g c =
    bad_mark (g.D.Disk.files c.keep_front.new.disk) (part_mark c.mark-item.result) (map part_mark c.args.marks.now) c.in_file.result c.in_file.ensures
    (member_at part_mark c.args.marks.now c.loop-mark.mark-index c.mark-item.result c.loop-mark-test.true c.mark-item.is) c.in-Err.fault c.in-Err.ensures.bad

pub loop-mark-preserved : goal.loop-mark-preserved
loop-mark-preserved g c =
    let x = c.mark-item.result in
    record {
      untouched = untouched-then g.D.Disk.files g.D.Disk.moment g.D.Disk.images c.args.disk.now c.loop-mark.disk c.keep_front.new.disk c.loop-mark.invariant.untouched c.keep_front.ensures.untouched;
      kept = beside-more g.D.Disk.files g.D.Disk.moment g.D.Disk.images part_mark IsKeptMark c.args.marks.now c.loop-mark.mark-index x c.loop-mark.disk c.keep_front.new.disk c.loop-mark-test.true c.mark-item.is c.keep_front.ensures.untouched c.loop-mark.invariant.kept
          (beside-map g.D.Disk.files g.D.Disk.moment g.D.Disk.images (λ f d. HasFront c.in_file.result x.len f × SameAt c.in_file.result f d) (IsKeptMark (part_mark x)) c.keep_front.new.disk (λ f d read both. subst (λ (n : List ℕ). HasFront n x.len f × SameAt n f d) c.in_file.ensures both) c.in-Ok.ensures.kept);
      calm = c.in-Ok.ensures.reason.calm ∙ c.loop-mark.invariant.calm;
    }
