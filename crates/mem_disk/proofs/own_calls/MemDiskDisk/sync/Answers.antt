use Rattle.std.proofs.Common.{Ok, refl}
use Rattle.disk_model.specs.Changes.{Same}
use Rattle.mem_disk.specs.Holding.{shown}
use Rattle.mem_disk.specs.MemoryDisk.{mem_files, Plays}
use Rattle.mem_disk.specs.declared.call.Call.TheVariants.{Synced}
use Rattle.mem_disk.proofs.PlayLemmas.{plays_is, follows_map, follows_same}
use Rattle.mem_disk.proofs.own_calls.MemDiskDisk.sync.Goals as goal

pub returns-clause-read : goal.returns-clause-read
returns-clause-read c =
    let old = c.args.self.now in
    let x = Synced c.args.name.now in
    follows_same (mem_files old) (mem_files c.note.new.self)
    (follows_map (Plays (Ok x) c.note.result (shown old.held)) Same (mem_files old) (mem_files c.note.new.self)
    (λ d e was step. plays_is (Ok x) c.note.result x Same (shown old.held) d e refl (λ is. is.0) (λ w. refl) step) c.note.ensures.read)
