use Rattle.std.proofs.Common.{rules, ◌≤◌, ◌-◌, ◌++◌, ◌∷◌, [], ◌∙◌, ap, List, ℕ, min, length, take, drop}
use Rattle.mem_disk.specs.Kept.{Kept, written_over}
use Rattle.mem_disk.specs.declared.file.Change.{Change}
use Rattle.mem_disk.proofs.UndoLemmas.{file_written}
use Rattle.mem_disk.proofs.file.MemFile.write_at.Goals as goal

pub returns-in-Ok-clause-ok : goal.returns-in-Ok-clause-ok
returns-in-Ok-clause-ok c =
    let b = c.self.inside.bytes.items in
    let bytes = c.args.bytes.now in
    let before = c.self.inside.changes.items in
    let le : c.args.at ≤ length b = search rules in
    let one = c.in_ok-change.ensures ∙ ap (λ (l : List ℕ). record { at = c.args.at; len = length bytes; old = take (min (length bytes) (length l - c.args.at)) (drop c.args.at l) }) c.deref.ensures.value in
    let pushed = c.in_ok-push.ensures.items ∙ ap (λ (x : Change). before ++ x ∷ []) one in
    file_written b before c.args.at bytes c.write_in.new.all.items c.push.new.self.items le c.in-Ok.ensures.ok pushed ∙ ap (λ (f : Kept). written_over c.args.at bytes f) c.self.view_is
