use Rattle.std.proofs.Common.{◌<◌, ◌++◌, ◌∷◌, [], ◌∙◌, ℕ, List, length, take, map, ap, sym, rules}
use Rattle.mem_disk.specs.Kept.{spoiled, spoilt_by}
use Rattle.mem_disk.specs.Undo.{range_of}
use Rattle.mem_disk.proofs.UndoLemmas.{spoiled_more}
use Rattle.mem_disk.proofs.file.spoiled.Goals as goal

pub loop-place-preserved : goal.loop-place-preserved
loop-place-preserved c =
    let how = spoilt_by c.args.digit in
    let R = map range_of c.args.changes.now in
    let file = c.args.file.now in
    let i = c.loop-place.place in
    let lt : i < length file = search rules in
    c.in_ok-push.ensures.items ∙ ap (λ (l : List ℕ). l ++ c.left_byte.result ∷ []) c.loop-place.invariant ∙ ap (λ (x : ℕ). spoiled how R 0 (take i file) ++ x ∷ []) c.left_byte.ensures ∙ sym (spoiled_more how R file i lt)
