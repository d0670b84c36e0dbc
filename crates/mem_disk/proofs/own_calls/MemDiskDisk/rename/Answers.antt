use Rattle.std.proofs.Common.{⊎_elim, Ok, refl}
use Rattle.disk_model.specs.Changes.{AtOnce, OnOwn, Renames}
use Rattle.disk_model.proofs.MomentLemmas.{steps_map}
use Rattle.mem_disk.specs.Holding.{shown}
use Rattle.mem_disk.specs.MemoryDisk.{mem_moment, mem_images, mem_files, Plays}
use Rattle.mem_disk.specs.declared.call.Call.TheVariants.{Renamed}
use Rattle.mem_disk.proofs.PlayLemmas.{plays_at_once, follows_map}
use Rattle.mem_disk.proofs.own_calls.MemDiskDisk.rename.Goals as goal

pub returns-clause-read : goal.returns-clause-read
returns-clause-read c =
    let old = c.args.self.now in
    let x = Renamed c.args.from.now c.args.to.now in
    let step = OnOwn (Renames c.args.from.now c.args.to.now) in
    let stood = c.requires (shown old.held) refl in
    follows_map (Plays (Ok x) c.note.result (shown old.held)) (AtOnce c.note.result (λ _. step)) (mem_files old) (mem_files c.note.new.self)
    (λ d e was is. plays_at_once (Ok x) c.note.result x (λ _. step) (shown old.held) d e refl (λ _ it. ⊎_elim (λ none. absurd (cc (none.0, stood.1))) (λ done. done) it) is) c.note.ensures.read

pub returns-clause-stop : goal.returns-clause-stop
returns-clause-stop c =
    let old = c.args.self.now in
    let x = Renamed c.args.from.now c.args.to.now in
    let step = OnOwn (Renames c.args.from.now c.args.to.now) in
    let stood = c.requires (shown old.held) refl in
    steps_map mem_moment mem_images (Plays (Ok x) c.note.result (shown old.held)) (AtOnce c.note.result (λ _. step)) old c.note.new.self
    (λ d e is. plays_at_once (Ok x) c.note.result x (λ _. step) (shown old.held) d e refl (λ _ it. ⊎_elim (λ none. absurd (cc (none.0, stood.1))) (λ done. done) it) is) c.note.ensures.stop
