use Rattle.std.proofs.Common.{◌≡◌, map, ◌∙◌, ap, subst}
use Rattle.ledger_rec.specs.Fold.{Folding}
use Rattle.ledger_rec.specs.Items.{part_mark}
use Rattle.ledger_rec.proofs.OrderFold.{order_fold}
use Rattle.node_model.specs.Lists.{Member}
use Rattle.node_store.proofs.Cutting.{cut_more}
use Rattle.node_store.proofs.Kept.{member_at}
use Rattle.node_store.proofs.Recovering.{leaves-then}
use Rattle.node_store.proofs.Rest.{reads-then}
use Rattle.node_store.proofs.opening.parts.cut_parts.Goals as goal

pub cut_part-requires-clause-there : goal.cut_part-requires-clause-there
cut_part-requires-clause-there g c =
    let all : map part_mark c.marks-marks.result.now ≡ c.args.books.now.folding.state.marks = c.marks-marks.ensures ∙ ap (λ (f : Folding). f.state.marks) c.folded.ensures in
    subst (Member (part_mark c.mark-item.result)) all (member_at part_mark c.marks-marks.result.now c.loop-mark.mark-index c.mark-item.result c.loop-mark-test.true c.mark-item.is)

pub returns-in-Err-clause-stop : goal.returns-in-Err-clause-stop
returns-in-Err-clause-stop g c = leaves-then g.D.Disk.moment g.D.Disk.images c.args.disk.now c.loop-mark.disk c.cut_part.new.disk c.loop-mark.invariant.stop c.cut_part.ensures.stop

pub returns-in-Err-clause-read : goal.returns-in-Err-clause-read
returns-in-Err-clause-read g c = reads-then (g.D.Disk.files c.args.disk.now) (g.D.Disk.files c.loop-mark.disk) (g.D.Disk.files c.cut_part.new.disk) c.loop-mark.invariant.read c.cut_part.ensures.read

pub loop-mark-preserved : goal.loop-mark-preserved
loop-mark-preserved g c =
    let s = c.args.books.now.folding.state in
    let x = c.mark-item.result in
    let old = g.D.Disk.files c.loop-mark.disk in
    let new = g.D.Disk.files c.cut_part.new.disk in
    let all : map part_mark c.marks-marks.result.now ≡ s.marks = c.marks-marks.ensures ∙ ap (λ (f : Folding). f.state.marks) c.folded.ensures in
    let there = subst (Member (part_mark x)) all (member_at part_mark c.marks-marks.result.now c.loop-mark.mark-index x c.loop-mark-test.true c.mark-item.is) in
    record {
      tended = c.in-Ok.ensures.tended;
      cut = cut_more part_mark c.marks-marks.result.now s all (order_fold c.args.books.now.payloads s c.requires.folds) c.loop-mark.mark-index x c.loop-mark-test.true c.mark-item.is there old new c.loop-mark.invariant.tended.fits c.loop-mark.invariant.cut c.in-Ok.ensures.cut;
      stop = leaves-then g.D.Disk.moment g.D.Disk.images c.args.disk.now c.loop-mark.disk c.cut_part.new.disk c.loop-mark.invariant.stop c.cut_part.ensures.stop;
      read = reads-then (g.D.Disk.files c.args.disk.now) old new c.loop-mark.invariant.read c.cut_part.ensures.read;
      calm = c.in-Ok.ensures.reason.calm ∙ c.loop-mark.invariant.calm;
    }
