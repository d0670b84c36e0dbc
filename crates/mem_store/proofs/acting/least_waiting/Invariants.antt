use Rattle.std.proofs.Common.{◌&&◌, take}
use Rattle.mem_store.proofs.acting.least_waiting.Given as goal
use Rattle.ftn_addr.specs.Address.{address, same_address}
use Rattle.node_model.specs.Items.{Entry}
use Rattle.node_model.specs.SendRows.{waits_for_action}
use Rattle.mem_store.specs.Least.{Least}

abbrev pub invariant-loop-file : goal.invariant-loop-file
invariant-loop-file l =
    Least (λ (e : Entry). same_address (address l.dest) e.dest && waits_for_action e) (λ (e : Entry). e.number) (take l.file-index l.queue) l.least
