use Rattle.std.proofs.Common.{ap, sym, ◌∙◌, rules}
use Rattle.mem_disk.specs.Holding.{shown}
use Rattle.mem_disk.proofs.MemoryLaws.{rest_of}
use Rattle.mem_disk.proofs.disk.MemDisk.new.Goals as goal

pub returns-clause-tells : goal.returns-clause-tells
returns-clause-tells c = ap shown (sym c.new-2.ensures)

pub returns-clause-rest : goal.returns-clause-rest
returns-clause-rest c = rest_of c.new.result c.new-2.result c.new-3.result.items (search rules) (c.new-2.ensures ∙ sym c.new.ensures)
