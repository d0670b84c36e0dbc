use Rattle.std.proofs.Common.{take}
use Rattle.ftn_addr.specs.Address.{address}
use Rattle.node_model.specs.Stocks.{NextLive}
use Rattle.mem_store.proofs.queued.next_of.Given as goal

abbrev pub invariant-loop-file : goal.invariant-loop-file
invariant-loop-file l = NextLive (address l.dest) l.after (take l.file-index l.queue) l.best
