use Rattle.std.proofs.Common.{⊎_elim, ℕ, List, refl, sym, ◌∙◌, ap, subst, rules}
use Rattle.disk_model.specs.Changes.{Every}
use Rattle.disk_model.specs.Folders.{IsInUse}
use Rattle.disk_model.specs.Answers.{GivesTo}
use Rattle.disk_model.specs.declared.answers.Giving.TheVariants.{Given as IsGiven}
use Rattle.mem_disk.specs.Holding.{shown}
use Rattle.mem_disk.specs.MemoryDisk.{mem_files, may}
use Rattle.mem_disk.specs.declared.call.Call.TheVariants.{Given}
use Rattle.mem_disk.proofs.PlayLemmas.{told_by, noted_both}
use Rattle.mem_disk.proofs.FolderLemmas.{in_use, not_in_use}
use Rattle.mem_disk.proofs.yard_calls.MemDiskYard.give.Goals as goal

pub returns-then-in_use-clause-told : goal.returns-then-in_use-clause-told
returns-then-in_use-clause-told c =
    let old = c.args.self.now in
    let used = in_use c.in-Ok.path old.held.outside (search rules) in
    subst (λ (p : List ℕ). Every (mem_files old) (λ w. IsInUse p w.outside)) c.in-Ok.ensures (told_by old (λ w. IsInUse c.in-Ok.path w.outside) used)

pub returns-in-Ok-note-clause-told : goal.returns-in-Ok-note-clause-told
returns-in-Ok-note-clause-told c =
    let old = c.args.self.now in
    subst (λ (p : List ℕ). Every (mem_files old) (λ w. IsInUse p w.outside → ⊥)) c.in-Ok.ensures
    (told_by old (λ w. IsInUse c.in-Ok.path w.outside → ⊥) (not_in_use c.in-Ok.path old.held.outside (search rules)))

pub returns-in-Ok-note-clause-both : goal.returns-in-Ok-note-clause-both
returns-in-Ok-note-clause-both c =
    let old = c.args.self.now in
    let own = c.args.own.now in
    let folder = c.args.folder.now.list in
    let name = c.args.name.now.list in
    let stood = c.requires (shown old.held) refl in
    let x = c.in-Ok-given.ensures ∙ ap (λ (p : List ℕ). Given own folder name p) c.in-Ok.ensures in
    let both = noted_both (GivesTo own folder name 0) old c.note.new.self IsGiven c.in-Ok-given.call
    (λ d e is. ⊎_elim (λ none. absurd (cc (none.0, stood.1))) (λ done. done) (subst (λ y. may y (shown old.held) d e) x is)) c.in-Ok-note.ensures.read c.in-Ok-note.ensures.stop in
    (0, both)

pub returns-in-Ok-note-clause-in_use : goal.returns-in-Ok-note-clause-in_use
returns-in-Ok-note-clause-in_use c =
    let old = c.args.self.now in
    let free = not_in_use c.in-Ok.path old.held.outside (search rules) in
    λ w now. (shown old.held, refl, λ used. absurd (free (subst (λ (p : List ℕ). IsInUse p (shown old.held).outside) (sym c.in-Ok.ensures) used)))

pub returns-in-Err-clause-in_use : goal.returns-in-Err-clause-in_use
returns-in-Err-clause-in_use c = λ w now. let was = c.in-Err.ensures.read w now in (was.0, was.1, λ used. was.2)
