use Rattle.std.proofs.Common.{◌≡◌, ℕ, List, Some, subst}
use Rattle.disk_model.specs.World.{OutFile}
use Rattle.disk_model.specs.Changes.{Follows, OnOwn, Puts}
use Rattle.mem_disk.specs.Holding.{under}
use Rattle.mem_disk.specs.MemoryDisk.{mem_files}
use Rattle.mem_disk.proofs.YardLemmas.{part_unchanged, part_failed, stat_found, copy_says}
use Rattle.mem_disk.proofs.yard_calls.MemDiskYard.copy.Goals as goal

pub returns-in_default-clause-read : goal.returns-in_default-clause-read
returns-in_default-clause-read c = part_unchanged c.args.own.now c.args.most (mem_files c.args.self.now) (mem_files c.no_memory.new.self) c.no_memory.ensures.read

pub returns-in-Err-clause-read : goal.returns-in-Err-clause-read
returns-in-Err-clause-read c = part_unchanged c.args.own.now c.args.most (mem_files c.args.self.now) (mem_files c.pass.new.self) c.in-Err.ensures.read

pub returns-in-Err-note-clause-read : goal.returns-in-Err-note-clause-read
returns-in-Err-note-clause-read c = part_failed c.args.own.now c.args.most (mem_files c.args.self.now) (mem_files c.note.new.self) c.in-Err-note.ensures.read

pub returns-in_default-copy_out-clause-read : goal.returns-in_default-copy_out-clause-read
returns-in_default-copy_out-clause-read c =
    part_unchanged c.args.own.now c.args.most (mem_files c.args.self.now) (mem_files c.no_memory-in_default-copy_out.new.self) c.no_memory-in_default-copy_out.ensures.read

pub returns-in-Ok-note-2-clause-read : goal.returns-in-Ok-note-2-clause-read
returns-in-Ok-note-2-clause-read c =
    let old = c.args.self.now in
    let found = stat_found (under c.in-Ok.path old.held.outside) c.in-Some.stat c.in-Some.ensures in
    subst (λ (p : List ℕ). Follows (λ d e. (g : OutFile) × (d.outside p ≡ Some g) × OnOwn (Puts c.args.own.now (Some g.bytes)) d e) (mem_files old) (mem_files c.note-2.new.self)) c.in-Ok.ensures
    (copy_says old c.note-2.new.self c.in-Ok.path c.args.own.now c.in-Ok-copy_out.bytes found.0 found.1 (c.in-Ok-copy_out.ensures found.0 found.1) c.in-Ok-note-2.ensures.done)

pub returns-clause-read : goal.returns-clause-read
returns-clause-read c = part_failed c.args.own.now c.args.most (mem_files c.args.self.now) (mem_files c.note-2.new.self) c.in-Err-note-2.ensures.read
