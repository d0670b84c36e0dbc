use Rattle.mem_disk.proofs.MemoryLaws.{plays_done, plays_reads, plays_steps}
use Rattle.mem_disk.proofs.disk.MemDisk.note.Goals as goal

pub returns-clause-done : goal.returns-clause-done
returns-clause-done c = plays_done c.args.self.now c.enter.new.self c.args.call c.enter.result c.enter.ensures.noted

pub returns-clause-read : goal.returns-clause-read
returns-clause-read c = plays_reads c.args.self.now c.enter.new.self c.args.call c.enter.result c.requires.whole c.enter.ensures.noted

pub returns-clause-stop : goal.returns-clause-stop
returns-clause-stop c = plays_steps c.args.self.now c.enter.new.self c.args.call c.enter.result c.requires.whole c.enter.ensures.noted
