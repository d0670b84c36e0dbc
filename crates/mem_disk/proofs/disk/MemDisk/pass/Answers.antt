use Rattle.std.proofs.Common.{refl, Ok}
use Rattle.disk_model.specs.Changes.{Same}
use Rattle.mem_disk.specs.Holding.{shown}
use Rattle.disk_model.proofs.MomentLemmas.{steps_map}
use Rattle.mem_disk.specs.MemoryDisk.{mem_moment, mem_images, mem_files, Plays}
use Rattle.mem_disk.specs.declared.call.Call.TheVariants.{Nothing}
use Rattle.mem_disk.proofs.PlayLemmas.{plays_is, follows_map, follows_same}
use Rattle.mem_disk.proofs.disk.MemDisk.pass.Goals as goal

pub returns-clause-stop : goal.returns-clause-stop
returns-clause-stop c =
    let old = c.args.self.now in
    steps_map mem_moment mem_images (Plays (Ok Nothing) c.note.result (shown old.held)) Same old c.note.new.self
    (λ d e step. plays_is (Ok Nothing) c.note.result Nothing Same (shown old.held) d e refl (λ is. is) (λ w. refl) step) c.note.ensures.stop

pub returns-clause-read : goal.returns-clause-read
returns-clause-read c =
    let old = c.args.self.now in
    follows_same (mem_files old) (mem_files c.note.new.self)
    (follows_map (Plays (Ok Nothing) c.note.result (shown old.held)) Same (mem_files old) (mem_files c.note.new.self)
    (λ d e was step. plays_is (Ok Nothing) c.note.result Nothing Same (shown old.held) d e refl (λ is. is) (λ w. refl) step) c.note.ensures.read)
