use Rattle.std.proofs.Common.{◌++◌, map, drop}
use Rattle.node_model.specs.StoreWords.{entry_of, slot_of}
use Rattle.mem_store.proofs.Queueing.{Planned}
use Rattle.mem_store.proofs.plan.plan_all.Given as goal

abbrev pub invariant-loop-file : goal.invariant-loop-file
invariant-loop-file l =
    Planned l.seat (map entry_of l.files) (map entry_of (drop l.file-index l.files)) l.staged l.queue (l.queue ++ l.plan.fresh.items) (map slot_of l.plan.slots.items) l.plan.records.items
