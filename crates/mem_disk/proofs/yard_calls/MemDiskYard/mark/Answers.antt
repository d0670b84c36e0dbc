use Rattle.std.proofs.Common.{◌≡◌, ℕ, List, true, Some, Ok, subst, rules}
use Rattle.std.specs.Prelude.{is_some}
use Rattle.ftn_addr.specs.declared.refusals.Failed.{Failed}
use Rattle.disk_model.specs.World.{OutFile}
use Rattle.disk_model.specs.Changes.{Every, OnOutside, Puts}
use Rattle.disk_model.specs.Moments.{Together}
use Rattle.disk_model.specs.Answers.{Marks}
use Rattle.disk_model.specs.declared.answers.Marking.{Marking}
use Rattle.disk_model.specs.declared.answers.Marking.TheVariants.{Made}
use Rattle.mem_disk.specs.Holding.{under}
use Rattle.mem_disk.specs.MemoryDisk.{mem_files, mem_moment, mem_images}
use Rattle.mem_disk.specs.declared.call.Call.TheVariants.{PutOut}
use Rattle.mem_disk.proofs.PlayLemmas.{told_by, noted_both, found_of}
use Rattle.mem_disk.proofs.yard_calls.MemDiskYard.mark.Goals as goal

pub returns-in-Ok-pass-clause-told : goal.returns-in-Ok-pass-clause-told
returns-in-Ok-pass-clause-told c =
    let old = c.args.self.now in
    let stood : is_some (under c.in-Ok.path old.held.outside) ≡ true = search rules in
    subst (λ (p : List ℕ). Every (mem_files old) (λ w. (f : OutFile) × (w.outside p ≡ Some f))) c.in-Ok.ensures
    (told_by old (λ w. (f : OutFile) × (w.outside c.in-Ok.path ≡ Some f)) (found_of (under c.in-Ok.path old.held.outside) stood))

pub returns-in-Ok-note-clause-both : goal.returns-in-Ok-note-clause-both
returns-in-Ok-note-clause-both c =
    let old = c.args.self.now in
    let new = c.note.new.self in (
      0,
      subst (λ (p : List ℕ). Together {T = Marking} {E = Failed} mem_files mem_moment mem_images (Ok Made) (Marks p c.args.text.now.list 0) old new) c.in-Ok.ensures
          (noted_both (Marks c.in-Ok.path c.args.text.now.list 0) old new Made (PutOut c.in-Ok.path c.in-Ok-from_bytes.text 0) (λ d e is. subst (λ (b : List ℕ). OnOutside (Puts c.in-Ok.path (Some (record { bytes = b; time = 0 }))) d e) c.in-Ok-from_bytes.ensures is) c.in-Ok-note.ensures.read c.in-Ok-note.ensures.stop),
    )
