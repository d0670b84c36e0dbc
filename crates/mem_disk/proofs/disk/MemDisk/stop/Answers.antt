use Rattle.std.proofs.Common.{◌∙◌, List, length, take, sym, subst}
use Rattle.mem_disk.specs.Holding.{first_calls, replay, picked}
use Rattle.mem_disk.specs.Picks.{digit_of}
use Rattle.mem_disk.specs.StopLaws.{picked_left}
use Rattle.mem_disk.proofs.PickLaws.{first_calls_front}
use Rattle.mem_disk.specs.MemoryDisk.{left}
use Rattle.mem_disk.specs.declared.call.Call.{Call}
use Rattle.mem_disk.proofs.MemoryLaws.{at_rest}
use Rattle.mem_disk.proofs.disk.MemDisk.stop.Goals as goal

pub returns-in-Ok-clause-image : goal.returns-in-Ok-clause-image
returns-in-Ok-clause-image c = λ w now.
    let first = c.args.self.first in
    let log = c.args.self.log.items in
    let front = first_calls c.args.after log in
    let h = replay first front in
    let here = picked (digit_of c.args.pick h.own) h in
    subst (left first (take (length front) log)) (sym (now ∙ c.in-Ok.ensures.exact))
    (subst (λ (l : List Call). left first l here) (first_calls_front c.args.after log) (picked_left first front (digit_of c.args.pick h.own) c.args.self.synced))

pub returns-in-Ok-clause-rest : goal.returns-in-Ok-clause-rest
returns-in-Ok-clause-rest c = at_rest c.in-Ok.disk c.in-Ok.ensures.fresh.0
