use Rattle.std.proofs.Common.{None, Ok, refl}
use Rattle.disk_model.specs.Changes.{AtOnce, OnOwn, Puts}
use Rattle.mem_disk.specs.Holding.{shown}
use Rattle.mem_disk.specs.MemoryDisk.{mem_files, Plays}
use Rattle.mem_disk.specs.declared.call.Call.TheVariants.{Removed}
use Rattle.mem_disk.proofs.PlayLemmas.{plays_at_once, follows_map}
use Rattle.mem_disk.proofs.own_calls.MemDiskDisk.remove.Goals as goal

pub returns-clause-read : goal.returns-clause-read
returns-clause-read c =
    let old = c.args.self.now in
    let x = Removed c.args.name.now in
    let step = OnOwn (Puts c.args.name.now None) in
    follows_map (Plays (Ok x) c.note.result (shown old.held)) (AtOnce c.note.result (λ _. step)) (mem_files old) (mem_files c.note.new.self)
    (λ d e was is. plays_at_once (Ok x) c.note.result x (λ _. step) (shown old.held) d e refl (λ _ it. it) is) c.note.ensures.read
