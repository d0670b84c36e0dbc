use Rattle.std.proofs.Common.{◌&&◌, take}
use Rattle.mem_store.proofs.received.least_waiting.Given as goal
use Rattle.node_model.specs.Items.{Receipt}
use Rattle.node_model.specs.SendRows.{may_go}
use Rattle.mem_store.specs.Least.{Least, is_above}

abbrev pub invariant-loop-file : goal.invariant-loop-file
invariant-loop-file l =
    Least (λ (r : Receipt). may_go r && is_above l.above r.number) (λ (r : Receipt). r.number) (take l.file-index l.inbox) l.least
