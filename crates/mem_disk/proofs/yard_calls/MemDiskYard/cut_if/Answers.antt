use Rattle.std.proofs.Common.{ℕ, List, Ok, Some, subst}
use Rattle.ftn_addr.specs.declared.refusals.Failed.{Failed}
use Rattle.disk_model.specs.Moments.{Together}
use Rattle.disk_model.specs.Changes.{OnOutside, Puts}
use Rattle.disk_model.specs.Answers.{Empties}
use Rattle.disk_model.specs.declared.answers.Hit.{Hit}
use Rattle.disk_model.specs.declared.answers.Hit.TheVariants.{Done}
use Rattle.mem_disk.specs.MemoryDisk.{mem_files, mem_moment, mem_images}
use Rattle.mem_disk.specs.declared.call.Call.TheVariants.{PutOut}
use Rattle.mem_disk.proofs.PlayLemmas.{noted_both}
use Rattle.mem_disk.proofs.yard_calls.MemDiskYard.cut_if.Goals as goal

pub returns-in-Ok-note-clause-both : goal.returns-in-Ok-note-clause-both
returns-in-Ok-note-clause-both c =
    let old = c.args.self.now in
    let new = c.note.new.self in
    let time = c.args.was.now.time in (
      time,
      subst (λ (p : List ℕ). Together {T = Hit} {E = Failed} mem_files mem_moment mem_images (Ok Done) (Empties p time) old new) c.in-Ok.ensures
          (noted_both (Empties c.in-Ok.path time) old new Done (PutOut c.in-Ok.path c.empty.result time) (λ d e is. subst (λ (b : List ℕ). OnOutside (Puts c.in-Ok.path (Some (record { bytes = b; time = time }))) d e) c.empty.ensures is) c.in-Ok-note.ensures.read c.in-Ok-note.ensures.stop),
    )
