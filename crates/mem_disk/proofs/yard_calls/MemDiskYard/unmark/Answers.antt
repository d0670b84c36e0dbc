use Rattle.std.proofs.Common.{ℕ, List, Ok, subst}
use Rattle.ftn_addr.specs.declared.refusals.Failed.{Failed}
use Rattle.disk_model.specs.Moments.{Together}
use Rattle.disk_model.specs.Answers.{Removes}
use Rattle.disk_model.specs.declared.answers.Hit.{Hit}
use Rattle.disk_model.specs.declared.answers.Hit.TheVariants.{Done}
use Rattle.mem_disk.specs.MemoryDisk.{mem_files, mem_moment, mem_images}
use Rattle.mem_disk.specs.declared.call.Call.TheVariants.{LostOut}
use Rattle.mem_disk.proofs.PlayLemmas.{noted_both}
use Rattle.mem_disk.proofs.yard_calls.MemDiskYard.unmark.Goals as goal

pub returns-in-Ok-note-clause-both : goal.returns-in-Ok-note-clause-both
returns-in-Ok-note-clause-both c =
    let old = c.args.self.now in
    let new = c.note.new.self in
    subst (λ (p : List ℕ). Together {T = Hit} {E = Failed} mem_files mem_moment mem_images (Ok Done) (Removes p) old new) c.in-Ok.ensures
    (noted_both (Removes c.in-Ok.path) old new Done (LostOut c.in-Ok.path) (λ d e is. is) c.in-Ok-note.ensures.read c.in-Ok-note.ensures.stop)
