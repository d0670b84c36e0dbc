use Rattle.std.proofs.Common.{◌≡◌, List, ◌++◌, ◌∷◌, [], ◌+◌, true, false, map, take, drop, sym, ap, subst, ◌∙◌, Some}
use Rattle.ledger_rec.proofs.FoldAll.{files_more, files_break}
use Rattle.ledger_rec.proofs.Planning.{files_next, files_split, below_of}
use Rattle.ledger_rec.specs.Batch.{may_follow, all_queued, queue_records}
use Rattle.ledger_rec.specs.Fold.{fold_all}
use Rattle.ledger_rec.specs.Lists.{state_of}
use Rattle.ledger_rec.specs.Planned.{Plans}
use Rattle.ledger_rec.specs.Record.{NewFileText, new_file}
use Rattle.ledger_rec.specs.declared.record.NewFileRec.{NewFileRec}
use Rattle.ledger_rec.proofs.batch.check_files.Goals as goal

pub returns-in-Some-false-clause-bad : goal.returns-in-Some-false-clause-bad
returns-in-Some-false-clause-bad c = λ _.
    let s = state_of c.args.lists.now in
    let xs = c.args.files.now in
    let i = c.loop-file.file-index in
    let file = c.file-item.result in
    let so_far = map new_file (take i xs) in
    let breaks : may_follow (new_file file) (all_queued so_far s) ≡ false = sym (c.in-Some-false.ensures so_far c.loop-file.invariant.plans) ∙ c.in-Some-false.field-0-test in
    let split : map new_file xs ≡ so_far ++ new_file file ∷ map new_file (drop (i + 1) xs) = files_split new_file xs i file c.loop-file-test.true ∙ ap (λ (x : NewFileRec). so_far ++ new_file x ∷ map new_file (drop (i + 1) xs)) (sym c.file-item.is) in
    ap (λ (fs : List NewFileText). fold_all s (queue_records fs)) split ∙ files_break s so_far (new_file file) (map new_file (drop (i + 1) xs)) c.loop-file.invariant.folded breaks

pub loop-file-preserved : goal.loop-file-preserved
loop-file-preserved c =
    let s = state_of c.args.lists.now in
    let xs = c.args.files.now in
    let i = c.loop-file.file-index in
    let file = c.file-item.result in
    let so_far = map new_file (take i xs) in
    let follows : may_follow (new_file file) (all_queued so_far s) ≡ true = sym (c.in-Some-true.ensures so_far c.loop-file.invariant.plans) ∙ c.in-Some-true.field-0-test in
    let next : map new_file (take (i + 1) xs) ≡ so_far ++ new_file file ∷ [] = files_next new_file xs i file c.loop-file-test.true ∙ ap (λ (x : NewFileRec). so_far ++ new_file x ∷ []) (sym c.file-item.is) in
    record {
      folded = ap (λ (fs : List NewFileText). fold_all s (queue_records fs)) next ∙ files_more s so_far (new_file file) c.loop-file.invariant.folded follows ∙ ap (λ (fs : List NewFileText). Some (all_queued fs s)) (sym next);
      plans = subst (λ (fs : List NewFileText). Plans c.note.new.self fs s) (sym next) (c.note.ensures so_far s c.loop-file.invariant.plans (below_of (new_file file) (all_queued so_far s) follows));
    }
