use Rattle.std.proofs.Common.{◌≡◌, ⊎_elim, ℕ, List, true, Some, Ok, subst, rules}
use Rattle.std.specs.Prelude.{is_some}
use Rattle.ftn_addr.specs.declared.refusals.Failed.{Failed}
use Rattle.disk_model.specs.World.{OutFile}
use Rattle.disk_model.specs.Changes.{Every}
use Rattle.disk_model.specs.Moments.{Together}
use Rattle.disk_model.specs.Answers.{Takes}
use Rattle.disk_model.specs.declared.answers.Moved.{Moved}
use Rattle.disk_model.specs.declared.answers.Moved.TheVariants.{Done}
use Rattle.mem_disk.specs.Holding.{under}
use Rattle.mem_disk.specs.MemoryDisk.{mem_files, mem_moment, mem_images}
use Rattle.mem_disk.specs.declared.call.Call.TheVariants.{Moved as Moved'}
use Rattle.mem_disk.proofs.PlayLemmas.{told_by, noted_both, found_of}
use Rattle.mem_disk.proofs.yard_calls.MemDiskYard.take.Goals as goal

pub returns-in-Ok-note-clause-told : goal.returns-in-Ok-note-clause-told
returns-in-Ok-note-clause-told c =
    let old = c.args.self.now in
    let stood : is_some (under c.in-Ok.path old.held.outside) ≡ true = search rules in
    subst (λ (p : List ℕ). Every (mem_files old) (λ w. (f : OutFile) × (w.outside p ≡ Some f))) c.in-Ok.ensures
    (told_by old (λ w. (f : OutFile) × (w.outside c.in-Ok.path ≡ Some f)) (found_of (under c.in-Ok.path old.held.outside) stood))

pub returns-in-Ok-note-clause-both : goal.returns-in-Ok-note-clause-both
returns-in-Ok-note-clause-both c =
    let old = c.args.self.now in
    let new = c.note.new.self in
    let stood : is_some (under c.in-Ok.path old.held.outside) ≡ true = search rules in
    let found = found_of (under c.in-Ok.path old.held.outside) stood in
    subst (λ (p : List ℕ). Together {T = Moved} {E = Failed} mem_files mem_moment mem_images (Ok Done) (Takes p c.args.own.now) old new) c.in-Ok.ensures
    (noted_both (Takes c.in-Ok.path c.args.own.now) old new Done (Moved' c.in-Ok.path c.args.own.now) (λ d e is. ⊎_elim (λ none. absurd (cc (none.0, found.1))) (λ done. done) is) c.in-Ok-note.ensures.read c.in-Ok-note.ensures.stop)
