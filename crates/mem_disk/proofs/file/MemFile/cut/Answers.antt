use Rattle.std.proofs.Common.{rules, ◌≤◌, ◌++◌, ◌∷◌, [], ◌∙◌, ap, List, ℕ, length, drop}
use Rattle.mem_disk.specs.Kept.{Kept, shortened}
use Rattle.mem_disk.specs.declared.file.Change.{Change}
use Rattle.mem_disk.proofs.UndoLemmas.{file_cut}
use Rattle.mem_disk.proofs.file.MemFile.cut.Goals as goal

pub returns-clause-ok : goal.returns-clause-ok
returns-clause-ok c =
    let b = c.self.inside.bytes.items in
    let before = c.self.inside.changes.items in
    let le : c.args.len ≤ length b = search rules in
    let one = c.in_ok-change.ensures ∙ ap (λ (l : List ℕ). record { at = c.args.len; len = 0; old = drop c.args.len l }) c.deref.ensures.value in
    let pushed = c.in_ok-push.ensures.items ∙ ap (λ (x : Change). before ++ x ∷ []) one in
    file_cut b before c.args.len c.truncate.new.self.items c.push.new.self.items le c.truncate.ensures.items pushed ∙ ap (λ (f : Kept). shortened c.args.len f) c.self.view_is
