use Rattle.mem_disk.proofs.HoldingLemmas.{filled, keeps_place}
use Rattle.mem_disk.proofs.holdings.move_own.Goals as goal

pub unreachable-requires-in-Err : goal.unreachable-requires-in-Err
unreachable-requires-in-Err c =
    keeps_place c.args.from.now c.args.to.now c.settled.result c.args.files.now.entries c.insert.new.self.entries c.take_own.new.files.entries c.requires.apart c.in_ok-insert.ensures.entries c.take_own.ensures.rest
    c.in-Err.ensures.absent

pub returns-clause-ok : goal.returns-clause-ok
returns-clause-ok c =
    filled c.args.from.now c.args.to.now c.settled.result c.in-Some.file c.args.files.now.entries c.insert.new.self.entries c.take_own.new.files.entries c.insert-2.new.self.entries c.requires.apart
    c.in_ok-insert.ensures.entries c.take_own.ensures.rest c.in-Some.ensures.value c.in-Ok.ensures.entries
