use Rattle.std.proofs.Common.{◌≡◌, take, Ok, refl}
use Rattle.disk_model.specs.Changes.{OnOwn, Rewrites, Cut}
use Rattle.mem_disk.specs.Holding.{shown, play}
use Rattle.mem_disk.specs.MemoryDisk.{mem_files, Plays}
use Rattle.mem_disk.specs.TornLaws.{cut_same}
use Rattle.mem_disk.specs.declared.call.Call.TheVariants.{Shortened}
use Rattle.mem_disk.proofs.PlayLemmas.{plays_is, follows_map, own_same, done_follows}
use Rattle.mem_disk.proofs.OwnLemmas.{cuts_all, rewrites_same}
use Rattle.mem_disk.proofs.own_calls.MemDiskDisk.cut.Goals as goal

pub returns-clause-cut : goal.returns-clause-cut
returns-clause-cut c =
    let old = c.args.self.now in
    let name = c.args.name.now in
    done_follows old c.note.new.self c.note.result (play (Shortened name c.args.len) old.held) (OnOwn (Rewrites name (λ b a. a ≡ take c.args.len b))) c.note.ensures.done
    (record { own = cuts_all old.held name c.args.len (c.requires (shown old.held) refl); outside = refl; gifts = refl })

pub returns-clause-read : goal.returns-clause-read
returns-clause-read c =
    let old = c.args.self.now in
    let x = Shortened c.args.name.now c.args.len in
    let R = OnOwn (Rewrites c.args.name.now (Cut c.args.len)) in
    follows_map (Plays (Ok x) c.note.result (shown old.held)) R (mem_files old) (mem_files c.note.new.self)
    (λ d e was step. plays_is (Ok x) c.note.result x R (shown old.held) d e refl (λ is. is) (λ w. own_same (Rewrites c.args.name.now (Cut c.args.len)) (λ f. rewrites_same c.args.name.now (Cut c.args.len) (cut_same c.args.len) f) w) step) c.note.ensures.read
