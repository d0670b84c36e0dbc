use Rattle.std.proofs.Common.{◌≡◌, List, map, sym, ap, subst, ◌∙◌, Some, None}
use Rattle.ledger_rec.proofs.FoldAll.{batch_follows, batch_breaks, no_state}
use Rattle.ledger_rec.specs.Batch.{all_queued, batch_records, queue_records}
use Rattle.ledger_rec.specs.Fold.{fold_all}
use Rattle.ledger_rec.specs.Lists.{state_of}
use Rattle.ledger_rec.specs.Record.{NewFileText, new_file}
use Rattle.ledger_rec.proofs.batch.check.Goals as goal

pub returns-in-Err-clause-bad : goal.returns-in-Err-clause-bad
returns-in-Err-clause-bad c = λ is.
    let s = state_of c.args.lists.now in
    let b = c.args.batch.now in
    let none = subst (λ (fs : List NewFileText). fold_all s (queue_records fs) ≡ None) (ap (map new_file) c.as_slice.ensures.value) (c.in-Err.ensures.bad is) in
    batch_breaks s (map new_file b.files.items) b.take b.answered none

pub returns-then-may_end-clause-ok : goal.returns-then-may_end-clause-ok
returns-then-may_end-clause-ok c =
    let s = state_of c.args.lists.now in
    let b = c.args.batch.now in
    let queued = subst (λ (fs : List NewFileText). fold_all s (queue_records fs) ≡ Some (all_queued fs s)) (ap (map new_file) c.as_slice.ensures.value) c.in-Ok.ensures.ok in
    batch_follows s (map new_file b.files.items) b.take b.answered queued ∙ sym c.if-may_end.ensures

pub returns-else-may_end-clause-bad : goal.returns-else-may_end-clause-bad
returns-else-may_end-clause-bad c = λ _.
    let s = state_of c.args.lists.now in
    let b = c.args.batch.now in
    let queued = subst (λ (fs : List NewFileText). fold_all s (queue_records fs) ≡ Some (all_queued fs s)) (ap (map new_file) c.as_slice.ensures.value) c.in-Ok.ensures.ok in
    no_state (fold_all s (batch_records b)) (batch_follows s (map new_file b.files.items) b.take b.answered queued ∙ sym c.if-may_end.ensures)
