use Rattle.std.proofs.Common.{◌≡◌, ◌⊎◌, inl, rules}
use Rattle.disk_model.specs.Changes.{Same, Stands}
use Rattle.disk_model.specs.Answers.{Creates}
use Rattle.mem_disk.specs.Holding.{under}
use Rattle.mem_disk.specs.MemoryDisk.{mem_files}
use Rattle.mem_disk.proofs.PlayLemmas.{follows_map, told_by}
use Rattle.mem_disk.proofs.OwnLemmas.{stands_of}
use Rattle.disk_model.specs.declared.answers.Made.{Made}
use Rattle.mem_disk.proofs.own_calls.MemDiskDisk.create.Goals as goal

pub returns-then-stands-clause-told : goal.returns-then-stands-clause-told
returns-then-stands-clause-told c =
    let old = c.args.self.now in
    told_by old (Stands c.args.name.now 0) (stands_of (under c.args.name.now old.held.own) (search rules))

pub returns-in-Err-clause-read : goal.returns-in-Err-clause-read
returns-in-Err-clause-read c =
    follows_map Same (λ d e. (e ≡ d) ⊎ ((made : Made) × Creates c.args.name.now made d e)) (mem_files c.args.self.now) (mem_files c.note.new.self) (λ d e was is. inl is) c.in-Err.ensures.read
