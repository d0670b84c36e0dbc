-- A disk in memory as it reads is one of its images. (It stands here with the laws that it needs, since an implementation
-- of a trait may cite nothing else of its own crate.)
use Rattle.std.proofs.Common.{List, length, sym, ◌∙◌, ap, subst, arith}
use Rattle.std.proofs.lemmas.List.{take_all}
use Rattle.disk_model.specs.World.{World}
use Rattle.disk_model.specs.Moments.{Now}
use Rattle.mem_disk.specs.Holding.{shown}
use Rattle.mem_disk.specs.MemoryDisk.{left, mem_files, mem_moment, mem_images}
use Rattle.mem_disk.specs.StopLaws.{shown_left}
use Rattle.mem_disk.specs.declared.call.Call.{Call}
use Rattle.mem_disk.specs.declared.disk.MemDisk.{MemDisk}

-- what a stop now may leave
pub now_of : (d : MemDisk) (c : World) → Now mem_moment mem_images d c → left d.first d.log.items c
now_of d c is = subst (λ (l : List Call). left d.first l c) (take_all (length d.log.items) d.log.items (omega arith)) is

pub of_now : (d : MemDisk) (c : World) → left d.first d.log.items c → Now mem_moment mem_images d c
of_now d c is = subst (λ (l : List Call). left d.first l c) (sym (take_all (length d.log.items) d.log.items (omega arith))) is

pub mem_as_read : (d : MemDisk) (w : World) → mem_files d w → Now mem_moment mem_images d w
mem_as_read d w is =
    of_now d w (subst (left d.first d.log.items) (ap shown (sym d.replayed) ∙ sym is) (shown_left d.first d.log.items d.synced))
