use Rattle.std.proofs.Common.{refl}
use Rattle.mem_disk.specs.Holding.{shown, play}
use Rattle.mem_disk.specs.declared.call.Call.TheVariants.{Wrote}
use Rattle.disk_model.specs.Changes.{OnOwn, Rewrites, Holds}
use Rattle.mem_disk.proofs.MemoryLaws.{wrote_reads, wrote_steps, wrote_held}
use Rattle.mem_disk.proofs.PlayLemmas.{done_follows}
use Rattle.mem_disk.proofs.OwnLemmas.{holds_all}
use Rattle.mem_disk.proofs.own_calls.MemDiskDisk.write_at.Goals as goal

pub returns-clause-read : goal.returns-clause-read
returns-clause-read c =
    wrote_reads c.args.name.now c.args.bytes.now c.args.at c.args.self.now c.enter.new.self c.wrote-call.result c.enter.result c.wrote-call.ensures c.enter.ensures.noted

pub returns-clause-stop : goal.returns-clause-stop
returns-clause-stop c =
    wrote_steps c.args.name.now c.args.bytes.now c.args.at c.args.self.now c.enter.new.self c.wrote-call.result c.enter.result c.wrote-call.ensures c.enter.ensures.noted

pub returns-clause-written : goal.returns-clause-written
returns-clause-written c =
    let old = c.args.self.now in
    let name = c.args.name.now in
    let done = wrote_held name c.args.bytes.now c.args.at old c.enter.new.self c.wrote-call.result c.enter.result c.wrote-call.ensures c.enter.ensures.noted in
    done_follows old c.enter.new.self c.enter.result (play (Wrote name c.args.at c.args.bytes.now) old.held) (OnOwn (Rewrites name (Holds c.args.at c.args.bytes.now))) done
    (record { own = holds_all old.held name c.args.bytes.now c.args.at (c.requires (shown old.held) refl); outside = refl; gifts = refl })
