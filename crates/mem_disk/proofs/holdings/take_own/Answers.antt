use Rattle.mem_disk.specs.EntryLaws.{removed_all}
use Rattle.mem_disk.proofs.holdings.take_own.Goals as goal

pub returns-clause-rest : goal.returns-clause-rest
returns-clause-rest c = removed_all c.args.name.now c.args.files.now.entries c.remove.new.self.entries c.remove.ensures.entries c.remove.ensures.updates.1
